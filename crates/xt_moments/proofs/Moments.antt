-- The law of one turn of a core whose timers fire at any moment.
use Rattle.std.proofs.Common.{◌≡◌, ◌≢◌, ℕ, Bool, true, false, ◌||◌, bit_and, bit_or}
use Rattle.std.proofs.Common.{⊎_elim, refl, sym, ap, ◌∙◌, subst, arith}
use Rattle.std.proofs.lemmas.Bool.{and_parts, cases_eq}
use Rattle.std.proofs.lemmas.List.{get_or-set_other}
use Rattle.xt_special.specs.Access.{without_bits}
use Rattle.xt_special.specs.Control.{special_of}
use Rattle.xt_map.specs.Code.{AreBytes}
use Rattle.xt_map.specs.Fetching.{fetch_at}
use Rattle.xt_rows.specs.RowLaws.{IsWord}
use Rattle.xt_exec.specs.State.{State}
use Rattle.xt_exec.specs.Turn.{planned_turn, turn}
use Rattle.xt_exec.specs.TurnLaws.{IsShaped}
use Rattle.xt_exec.proofs.Shapes.{turn_shaped}
use Rattle.xt_exec.proofs.Specials.{IsShapedSpecial, set_shaped}
use Rattle.xt_uses.specs.Words.{all_bits, complement}
use Rattle.xt_uses.specs.UseLaws.{AgreeIn}
use Rattle.xt_uses.specs.UseStep.{step_insn}
use Rattle.xt_uses.proofs.Agreeing.{agree_none}
use Rattle.xt_uses.proofs.Owb.{all_agree_word}
use Rattle.xt_timeless.specs.Time.{timer_bits}
use Rattle.xt_simulation.specs.Knowledge.{Knowledge, StatesAgree}
use Rattle.xt_simulation.specs.Learning.{known_past, with_mask}
use Rattle.xt_simulation.specs.SecretLaws.{FitsAccess, TurnsAgree, executed}
use Rattle.xt_simulation.specs.TurnUses.{found_used, turn_used}
use Rattle.xt_simulation.proofs.Controls.{Commons}
use Rattle.xt_simulation.proofs.Law.{turns_with_known_uses_agree, whole_other}
use Rattle.xt_simulation.proofs.Likes.{Like, like_same, like_words}
use Rattle.xt_simulation.proofs.Readings.{Two, other}
use Rattle.xt_simulation.proofs.SecretSpecials.{Specials, set_specials, with_other}
use Rattle.xt_simulation.proofs.Staying.{masks_stay}
use Rattle.xt_moments.specs.Moments.{armed_in, arms, interrupt_past, with_special}
use Rattle.xt_moments.specs.MomentLaws.{IsMomentKnown, MomentTurnsAgree, entered_known}
use Rattle.xt_moments.specs.MomentLaws.{enters, executes_clock, left_by, moment_known, moment_used}
use Rattle.xt_moments.proofs.Clocks.{clocks_agree}
use Rattle.xt_moments.proofs.Entered.{turn_puts}
use Rattle.xt_moments.proofs.Masks.{entered_stays, interrupt_mask, moment_stays}

-- ---- a special register is set

pub put_shaped : (k v : ℕ) (s : State) → k ≢ 3 → k ≢ 231 → IsWord v → IsShaped s
    → IsShaped (with_special k v s)
put_shaped k v s p q small f =
    let special : IsShapedSpecial s.control.special =
    record { count = f.control.count; words = f.control.words; shape = f.control.shape } in
    let set = set_shaped s.control.special k v
    (record { as_sar = λ e. absurd (p e); as_vecbase = λ e. absurd (q e) }) small special in
    record {
      count = f.count;
      words = f.words;
      base = f.base;
      start = f.start;
      control = record {
        pc = f.control.pc;
        count = set.count;
        words = set.words;
        shape = set.shape;
        ps = f.control.ps;
        threadptr = f.control.threadptr;
      };
    }

specials_of : (m : Knowledge) (s t : State) → IsShaped s → IsShaped t → StatesAgree m s t
    → Specials m.special s.control.special t.control.special
specials_of m s t f g h = record {
  long = f.control.count ∙ sym g.control.count;
  same = λ n. like_words (m.special n) (special_of s.control n) (special_of t.control n)
      (f.control.words n) (g.control.words n) (h.special n);
}

-- one special register of both is set, and what is known of the others stays
pub put_agree : (m : Knowledge) (special : ℕ → ℕ) (s t : State) (k v w : ℕ) → IsShaped s
    → IsShaped t
    → StatesAgree m s t → Like (special k) v w → ((j : ℕ) → j ≢ k → special j ≡ m.special j)
    → StatesAgree (record m { special = special }) (with_special k v s) (with_special k w t)
put_agree m special s t k v w f g h like other =
    let set = set_specials m.special special s.control.special t.control.special k v w
    (specials_of m s t f g h) like other in
    record {
      pc = h.pc;
      base = h.base;
      start = h.start;
      ps = h.ps;
      waits = h.waits;
      regs = h.regs;
      special = λ n. (set.same n).bits;
      threadptr = h.threadptr;
    }

-- ---- one turn

kind_is : (code : ℕ → ℕ) (s : State) (reply : ℕ)
    → (turn code s reply).0.kind ≡ (planned_turn code s).kind
unfolding turn
kind_is code s reply = refl

-- what no timer sets, of two numbers that agree in these bits
rest_is : (x y : ℕ) → AgreeIn (complement timer_bits) x y
    → without_bits x timer_bits ≡ without_bits y timer_bits
unfolding without_bits
rest_is x y h = h

-- a turn that uses known bits alone, or writes a clock
turns_agree : (code : ℕ → ℕ) (m : Knowledge) (s t : State) (reply v w : ℕ) → AreBytes code
    → IsMomentKnown m → IsShaped s → IsShaped t → StatesAgree m s t → IsWord reply → IsWord v
    → IsWord w
    → AgreeIn reply v w → FitsAccess (planned_turn code s).access reply
    → special_of s.control 226 ≡ special_of t.control 226
    → special_of s.control 228 ≡ special_of t.control 228
    → moment_used code reply m s ≡ true → TurnsAgree code reply m s (turn code s v) (turn code t w)
turns_agree code m s t reply v w bytes h f g e small vs ws replies fits interrupts enabled used =
    by_clock (executes_clock (step_insn (planned_turn code s).kind (fetch_at code s.control.pc)))
    refl
    (and_parts (found_used (planned_turn code s).access reply)
    (executes_clock (step_insn (planned_turn code s).kind (fetch_at code s.control.pc))
    || turn_used code (planned_turn code s).kind (planned_turn code s).access reply m s) used).1
  where
    same : other s t.regs t.control.special t.control.threadptr ≡ t
    same = whole_other m s t e

    known : Commons m.special
    known = record {
      vecbase = h.others 231 refl refl;
      lbeg = h.others 0 refl refl;
      lend = h.others 1 refl refl;
      lcount = h.others 2 refl refl;
    }

    two : Two m s t.regs t.control.special t.control.threadptr
    two = record {
      masks = h.masks;
      first = f;
      second = subst IsShaped (sym same) g;
      agree = subst (StatesAgree m s) (sym same) e;
    }

    by_clock : (b : Bool)
        → executes_clock (step_insn (planned_turn code s).kind (fetch_at code s.control.pc)) ≡ b
        → (b || turn_used code (planned_turn code s).kind (planned_turn code s).access reply m s) ≡
        true
        → TurnsAgree code reply m s (turn code s v) (turn code t w)
    by_clock true is used =
        subst (λ (u : State). TurnsAgree code reply m s (turn code s v) (turn code u w)) same
        (clocks_agree code m s t.regs t.control.special t.control.threadptr two known interrupts
        enabled
        h.ccount h.ccompare0 h.ccompare1 h.ccompare2 reply v w small vs ws replies fits is)
    by_clock false is used =
        turns_with_known_uses_agree code m s t reply v w bytes h.masks f g e small vs ws replies
        fits used

-- where EPC1 is known then
entered_agree : (b : Bool) (k : Knowledge) (x y : State) → StatesAgree k x y
    → (b ≡ true → special_of x.control 177 ≡ special_of y.control 177)
    → StatesAgree (entered_known b k) x y
entered_agree false k x y h same = h
entered_agree true k x y h same = record {
  pc = h.pc;
  base = h.base;
  start = h.start;
  ps = h.ps;
  waits = h.waits;
  regs = h.regs;
  special = λ n. ⊎_elim
      (λ (is : n ≡ 177). subst (λ j. AgreeIn (with_mask 177 all_bits k.special j) (special_of
      x.control j) (special_of y.control j)) (sym is)
      (like_same all_bits (special_of x.control 177) (special_of y.control 177) (same refl)).bits)
      (λ (d : n ≢ 177). subst (λ j. AgreeIn j (special_of x.control n) (special_of y.control n))
      (sym (with_other 177 all_bits k.special n d)) (h.special n))
      (cases_eq n 177);
  threadptr = h.threadptr;
}

-- a turn that enters a vector of level 1 leaves its program counter in EPC1
epc_left : (code : ℕ → ℕ) (s : State) (reply : ℕ) → IsShaped s
    → enters (planned_turn code s).kind s.control.ps ≡ true
    → special_of (left_by code s (turn code s reply)).control 177 ≡ s.control.pc
epc_left code s reply f is =
    let x = turn code s reply in
    let count = f.control.count in
    get_or-set_other x.1.control.special 226 177
    (interrupt_past (special_of s.control 226) (arms code s) (special_of x.1.control 226)) 0
    (λ e. omega (arith, e))
    ∙ turn_puts s (omega (arith, count)) code reply is

pub moment_turns_agree : MomentTurnsAgree
moment_turns_agree code m p q a b reply v w bytes h f g e small-a small-b small vs ws replies fits
    used =
    let s = with_special 234 a p in
    let t = with_special 234 b q in
    let fs = put_shaped 234 a p (omega arith) (omega arith) small-a f in
    let ft = put_shaped 234 b q (omega arith) (omega arith) small-b g in
    let none : Like (m.special 234) a b =
    like_words (m.special 234) a b small-a small-b
    (subst (λ k. AgreeIn k a b) (sym h.ccount) (agree_none a b)) in
    let est : StatesAgree m s t = put_agree m m.special p q 234 a b f g e none (λ j d. refl) in
    let x = turn code s v in
    let y = turn code t w in
    let before : special_of s.control 226 ≡ special_of t.control 226 =
    all_agree_word (special_of s.control 226) (special_of t.control 226) (fs.control.words 226)
    (ft.control.words 226)
    (subst (λ k. AgreeIn k (special_of s.control 226) (special_of t.control 226))
    (h.others 226 refl refl) (est.special 226)) in
    let enabled = all_agree_word (special_of s.control 228) (special_of t.control 228)
    (fs.control.words 228) (ft.control.words 228)
    (subst (λ k. AgreeIn k (special_of s.control 228) (special_of t.control 228))
    (h.others 228 refl refl) (est.special 228)) in
    let turns = turns_agree code m s t reply v w bytes h fs ft est small vs ws replies fits before
    enabled used in
    let kinds = sym (kind_is code s v) ∙ turns.kind ∙ kind_is code t w in
    let armed : arms code s ≡ arms code t =
    λ i. armed_in (kinds i) (fetch_at code (est.pc i)) in
    let o = executed code s x.0 in
    let k = known_past o x.0.write x.1.base reply m s in
    let mask = interrupt_mask m h s x.0.write x.1.base reply o in
    let rest = rest_is (special_of x.1.control 226) (special_of y.1.control 226)
    (subst (λ k. AgreeIn k (special_of x.1.control 226) (special_of y.1.control 226)) mask
    (turns.after.special 226)) in
    let interrupt : interrupt_past (special_of s.control 226) (arms code s) (special_of x.1.control
    226)
    ≡ interrupt_past (special_of t.control 226) (arms code t) (special_of y.1.control 226) =
    λ i. bit_or (rest i) (without_bits (bit_and (before i) timer_bits) (armed i)) in
    let b = enters x.0.kind s.control.ps in
    let past = moment_known o x.0.write x.1.base reply m s in
    let agree : StatesAgree past (left_by code s x) (left_by code t y) =
    put_agree _ _ x.1 y.1 226 _ _ (turn_shaped code s v bytes fs vs)
    (turn_shaped code t w bytes ft ws) turns.after (like_same all_bits _ _ interrupt)
    (λ j d. with_other 226 all_bits k.special j d) in
    let same : b ≡ true → special_of (left_by code s x).control 177
    ≡ special_of (left_by code t y).control 177 = λ is.
    epc_left code s v fs (sym (ap (λ d. enters d s.control.ps) (kind_is code s v)) ∙ is)
    ∙ est.pc
    ∙ sym (epc_left code t w ft ((λ i. enters (sym kinds i) (sym est.ps i))
    ∙ sym (ap (λ d. enters d s.control.ps) (kind_is code s v)) ∙ is)) in
    record {
      turns = turns;
      arms = armed;
      known = entered_stays b past (moment_stays m h s x.0.write x.1.base reply o
          (masks_stay code m s reply v bytes h.masks small));
      after = entered_agree b past (left_by code s x) (left_by code t y) agree same;
    }
