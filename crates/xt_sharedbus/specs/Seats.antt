-- Carries a proof; nothing that a reader must believe.
-- What a seat keeps of its fields.
use Rattle.std.specs.Prelude.{◌≡◌, ℕ, ◌<◌, List, [], Option, Some, None}
use Rattle.crossbeam_queue.specs.Passes.{view}
use Rattle.xt_map.specs.declared.contents.MemoryContents.{MemoryContents}
use Rattle.xt_map.specs.declared.access.Access.{Access}
use Rattle.xt_sharedbus.specs.declared.view.Part.{Part}
use Rattle.xt_sharedbus.specs.declared.view.View.{View}
use Rattle.xt_sharedbus.specs.declared.view.View.TheVariants.{Unopened, Live, Spent}
use Rattle.xt_sharedbus.specs.declared.shared.CoreSeat.TheInside.{Inside}
use Rattle.xt_sharedbus.specs.SeatState.{SeatState}
use Rattle.xt_sharedbus.specs.Views.{part, part_in, seat_view}

-- what stands where there is no opening memory
abbrev pub no_contents : MemoryContents
no_contents = record { rtc_fast_data = []; dram = []; rtc_slow = []; sent = [] }

-- the opening memory that a view holds
abbrev pub opening_in : View → MemoryContents
opening_in Unopened = no_contents
opening_in Spent = no_contents
opening_in (Live m a b h) = m

-- the accesses that a view knows of a core
abbrev pub list_of : Option Part → List (Access × ℕ)
list_of None = []
list_of (Some p) = p.list

abbrev pub seat_of : Inside → SeatState
seat_of s = record {
  bus = s.pass.table_id;
  core = s.core;
  left = s.left;
  opening = opening_in (view s.pass);
  list = list_of (part_in s.core (view s.pass));
}

-- its pass answers for its core alone, has no hand, and counts the same accesses left
pub record IsSeated (s : Inside) : Type 0 where
  pub core : s.core < 2
  pub free : s.pass.me.1 ≡ []
  pub knows : view s.pass ≡ seat_view (seat_of s).opening s.core (part (seat_of s).list s.left)
