-- What is judged of the runs of all orders ('profile').
--
-- Profile: the run of an order here has as many turns of each core as the order names, so it ends
-- with the order. It is the run of `run --order` with these numbers as `--turns0` and `--turns1`.
use Rattle.std.specs.Prelude.{◌≡◌, ℕ, suc, ◌<◌, ◌≤◌, ◌==◌, Bool, true, false, Option, Some, None, List, []}
use Rattle.std.specs.Prelude.{◌∷◌, if◌then◌else◌, All, length, option_map, slice_get}
use Rattle.xt_image.specs.declared.image.Image.{Image}
use Rattle.xt_trace.specs.declared.options.Options.{Options}
use Rattle.xt_trace.specs.declared.record.StepRecord.{StepRecord}
use Rattle.xt_trace.specs.declared.run.Run.{Run}
use Rattle.xt_trace.specs.Validity.{most_turns}
use Rattle.xt_core.specs.Runs.{records_of}
use Rattle.xt_machine.specs.Lists.{run_of_list}
use Rattle.xt_search.specs.Worlds.{IsOrder}
use Rattle.xt_judged.specs.Once.{HaveOwn}
use Rattle.xt_discipline.specs.Verdicts.{are_checked}
use Rattle.xt_judged.specs.Runs.{AllAreWhole, IsVerdictOf}
use Rattle.xt_judged.specs.declared.frames.JudgedOrders.{JudgedOrders}
use Rattle.xt_judged.specs.declared.frames.JudgedOrders.TheVariants.{Broken, Unchecked, Unknown, Whole}
use Rattle.xt_judged.specs.declared.frames.OrderBreach.{OrderBreach}
use Rattle.xt_judged.specs.declared.scene.Shown.{Shown}

-- how many turns of a core an order has
abbrev pub turns_in : ℕ → List ℕ → ℕ
turns_in core [] = 0
turns_in core (c ∷ cs) = if c == core then suc (turns_in core cs) else turns_in core cs

-- the run of an order's turns
abbrev pub run_of_order : Image → Options → List ℕ → Run
run_of_order image o order =
    run_of_list image (record o { turns0 = turns_in 0 order; turns1 = turns_in 1 order }) order

-- an order has no more turns of a core than the options give, timed, and than a run can have, else
abbrev pub HasTurnsOf : (timed : Bool) → Options → List ℕ → Type 0
HasTurnsOf true o order = (turns_in 0 order ≤ o.turns0) × (turns_in 1 order ≤ o.turns1)
HasTurnsOf false o order = (turns_in 0 order ≤ most_turns) × (turns_in 1 order ≤ most_turns)

-- the run of the breach's order has this breach, and the turn that shows it has its address
pub record IsRealBreach (image : Image) (o : Options) (timed : Bool) (b : OrderBreach)
    : Type 0 where
  pub is_order : IsOrder b.order.items
  pub given : HasTurnsOf timed o b.order.items
  pub step : ℕ
  pub verdict : IsVerdictOf image (run_of_order image o b.order.items)
      (Some (record { core = b.core; step = step; kind = b.kind }))
  pub address :
      option_map (λ r. r.pc)
      (slice_get (records_of b.core image (run_of_order image o b.order.items)).records step)
      ≡ Some b.pc

-- the record has this address
abbrev pub has_pc : ℕ → Option StepRecord → Bool
has_pc pc None = false
has_pc pc (Some r) = r.pc == pc

-- kind, core and address
abbrev pub place_of : OrderBreach → Shown
place_of b = record { core = b.core; pc = b.pc; kind = b.kind }

-- breaches, at least one, which are real, and no two of which have the same kind, core and address
pub record AreBreaches (image : Image) (o : Options) (timed : Bool) (list : List OrderBreach)
    : Type 0 where
  pub some : 0 < length list
  pub real : All (IsRealBreach image o timed) list
  pub once : HaveOwn place_of list

-- `none` if and only if a window handler fails its check
abbrev pub AreFrames : Image → Options → (timed : Bool) → JudgedOrders → Type 0
AreFrames image o timed Unknown = are_checked image o ≡ true
AreFrames image o timed Unchecked = are_checked image o ≡ false
AreFrames image o timed Whole = (are_checked image o ≡ true) × AllAreWhole image o timed
AreFrames image o timed (Broken list) =
    (are_checked image o ≡ true) × AreBreaches image o timed list.items
