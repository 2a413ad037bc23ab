-- A run has one first breach: what a turn shows is told by the turns before it.
use Rattle.std.proofs.Common.{◌≡◌, ℕ, ◌<◌, Option, Some, None, sym, ap, ◌∙◌, refl, arith, ⊎_elim, subst, length}
use Rattle.std.proofs.lemmas.Bool.{cases_order}
use Rattle.std.proofs.lemmas.Bool.Decides.{same_from_decides}
use Rattle.std.proofs.lemmas.Option.{none-some, slice_get_within, same_Some}
use Rattle.xt_trace.specs.declared.record.StepRecord.{StepRecord}
use Rattle.xt_frames.specs.declared.kinds.Breach.{Breach}
use Rattle.xt_frames.specs.declared.kinds.BreachKind.{BreachKind}
use Rattle.xt_frames.specs.FirstBreach.{Course, FirstBreachIsOne, IsBreach, IsFirstBreach, Shows, Turn, frame_before, live_before, phase_before, record_shows, records_before, turn_of}
use Rattle.xt_frames.proofs.Prefixes.{same_turn}

shows_once : (r : Course) (p core : ℕ) (rec : StepRecord) (one other : Option BreachKind) → Shows r p core rec one → Shows r p core rec other → one ≡ other
shows_once r p core rec one other a b =
    let epc : a.lost ≡ b.lost = same_from_decides a.lost b.lost a.is_lost b.is_lost in
    let bytes : a.stale ≡ b.stale = λ i x. same_from_decides (a.stale x) (b.stale x) (a.is_stale x) (b.is_stale x) i in
    sym a.shown
    ∙ ((λ i. record_shows r.code (r.bounds core) (phase_before r core p) (frame_before r core p) (epc i) (live_before r p) (bytes i) rec)
    ∙ b.shown)

quiet_there : (r : Course) (p q : ℕ) (b : Breach) (other : Option Breach) → IsBreach r p b → IsFirstBreach r q other → p < q → ⊥
quiet_there r p q b other x y l = none-some b.kind (shows_once r p b.core x.rec None (Some b.kind) (y.before p b.core x.rec l x.turn) x.shows)

is_there : (r : Course) (p : ℕ) (b : Breach) → IsBreach r p b → p < length r.turns
is_there r p b x = slice_get_within r.turns p (turn_of b.core x.rec) x.turn

same_breach : (r : Course) (p : ℕ) (b c : Breach) → IsBreach r p b → IsBreach r p c → b ≡ c
same_breach r p b c x y =
    let turn = same_turn r p b.core x.rec x.turn c.core y.rec y.turn in
    let core : b.core ≡ c.core = ap (λ (t : Turn). t.core) turn in
    let there : Shows r p c.core y.rec (Some b.kind) = subst (λ (t : Turn). Shows r p t.core t.rec (Some b.kind)) turn x.shows in
    let kind : b.kind ≡ c.kind = same_Some b.kind c.kind (shows_once r p c.core y.rec (Some b.kind) (Some c.kind) there y.shows) in
    let step : b.step ≡ c.step = x.number ∙ (ap (λ n. length (records_before r n p)) core ∙ sym y.number) in
    λ i. record { core = core i; step = step i; kind = kind i }

at_one : (r : Course) (p : ℕ) (one other : Option Breach) → IsFirstBreach r p one → IsFirstBreach r p other → one ≡ other
at_one r p None None x y = refl
at_one r p None (Some c) x y = let end = x.here in let l = is_there r p c y.here in absurd (omega (arith, end, l))
at_one r p (Some b) None x y = let end = y.here in let l = is_there r p b x.here in absurd (omega (arith, end, l))
at_one r p (Some b) (Some c) x y = ap (λ z. Some z) (same_breach r p b c x.here y.here)

never_later : (r : Course) (p q : ℕ) (one other : Option Breach) → IsFirstBreach r p one → IsFirstBreach r q other → p < q → ⊥
never_later r p q None None x y l = let end = x.here in let last = y.here in omega (arith, end, last, l)
never_later r p q None (Some c) x y l = let end = x.here in let there = is_there r q c y.here in omega (arith, end, there, l)
never_later r p q (Some b) other x y l = quiet_there r p q b other x.here y l

pub is_one : FirstBreachIsOne
is_one r p q one other x y = ⊎_elim
    (λ e. at_one r p one other x (subst (λ n. IsFirstBreach r n other) (sym e) y))
    (λ h. ⊎_elim (λ l. absurd (never_later r p q one other x y l)) (λ l. absurd (never_later r q p other one y x l)) h)
    (cases_order p q)
