-- When a source or a sink may refuse: only where it counted a fault in that call ('profile').
--
-- Profile: a source and a sink count their faults, and may refuse only where the count rose in that
-- call. Without a count no clause could rule out a call that always blames the outside. The count
-- is a u64 that stops at its end, so `Rose` also holds where it stands there.
use Rattle.std.specs.Prelude.{◌≡◌, ◌≤◌, ◌<◌, ◌+◌, ◌-◌, ◌^◌, ℕ, Bool, if◌then◌else◌, List, min}
use Rattle.std.specs.Prelude.{length, Result, Ok, OnErr, IsErrOf}
use Rattle.xt_io.specs.declared.sink.Refused.{Refused}
use Rattle.xt_io.specs.declared.sink.Refused.TheVariants as refused

-- one more, in a u64 that stops at its end
abbrev pub one_more : ℕ → ℕ
one_more count = min (count + 1) (2 ^ 64 - 1)

-- one more where this was a fault
abbrev pub count_after : ℕ → Bool → ℕ
count_after count is_fault = if is_fault then one_more count else count

-- the count is greater than before, or stands at the end of its type
abbrev pub Rose : ℕ → ℕ → Type 0
Rose before now = one_more before ≤ now

-- the count has not fallen, and a refusal comes only where it rose
pub record HasCause {T E : Type 0} (before now : ℕ) (result : Result T E) : Type 0 where
  pub later : before ≤ now
  pub failed : OnErr result (Rose before now)

-- the same of a write, where taking no byte of a piece that has some is a fault too, and running
-- out of memory is none
pub record HasWriteCause
    (before now : ℕ) (result : Result ℕ Refused) (piece : List ℕ) : Type 0 where
  pub later : before ≤ now
  pub failed : IsErrOf result refused.Failed → Rose before now
  pub stuck : result ≡ Ok 0 → 0 < length piece → Rose before now
