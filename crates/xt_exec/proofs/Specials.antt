-- The shape of the control state: what exceptions, interrupts, the tick and the effects of rows leave of it.
use Rattle.std.proofs.Common.{◌≡◌, ◌≢◌, ℕ, zero, suc, ◌+◌, ◌-◌, ◌*◌, ◌%◌, ◌^◌, ◌<◌, ◌≤◌, Bool, true, false, cond, eqb, Option, Some, None, List, [], ◌∷◌, length, slice_index, slice_set, bit_or, refl, ap, ◌∙◌, arith}
use Rattle.std.proofs.lemmas.List.{length-set}
use Rattle.std.proofs.lemmas.Nat.{or_lt}
use Rattle.xt_special.specs.declared.ps.Ps.{Ps}
use Rattle.xt_special.specs.Control.{Control, special_of, ps_word}
use Rattle.xt_special.specs.Shape.{IsPs, HasShape, CanHold, IsProperSet}
use Rattle.xt_special.specs.Timers.{with_timer, ticked_special, after_tick}
use Rattle.xt_special.specs.Exceptions.{with_address, after_general, after_double, after_exception}
use Rattle.xt_special.specs.Interrupts.{pending_level, after_high_level, after_interrupt}
use Rattle.xt_special.specs.WindowExceptions.{after_window_exception}
use Rattle.xt_special.specs.Looping.{loops_back}
use Rattle.xt_special.specs.declared.writes.SpecialWrite.{SpecialWrite}
use Rattle.xt_rows.specs.declared.outcome.Flow.{Flow}
use Rattle.xt_rows.specs.declared.outcome.Flow.TheVariants.{Falls, Goes}
use Rattle.xt_rows.specs.declared.outcome.Effect.{Effect}
use Rattle.xt_rows.specs.RowLaws.{IsWord, IsProperAddress, IsProperFlow, IsProperEffect}
use Rattle.xt_special.specs.Access.{with_set}
use Rattle.xt_rows.specs.Settling.{after_flow, after_effect}
use Rattle.xt_rows.proofs.Bounds.{ps_word_small}
use Rattle.xt_exec.specs.TurnLaws.{AreWords, IsShapedControl}

-- ---- a list in which one entry is set

-- what holds of the entry as it was, and of the new value where it is this entry, holds of the entry afterwards
pub held : (xs : List ℕ) (k v j : ℕ) (P : ℕ → Type 0) → (k ≡ j → P v) → P (slice_index xs j) → P (slice_index (slice_set xs k v) j)
held [] k v j P f p = p
held (x ∷ xs) zero v zero P f p = f refl
held (x ∷ xs) zero v (suc j) P f p = p
held (x ∷ xs) (suc k) v zero P f p = p
held (x ∷ xs) (suc k) v (suc j) P f p = held xs k v j P (λ e. f (ap suc e)) p

pub words_set : (xs : List ℕ) (k v : ℕ) → AreWords xs → IsWord v → AreWords (slice_set xs k v)
words_set xs k v words small j = held xs k v j (λ n. IsWord n) (λ e. small) (words j)

pub record IsShapedSpecial (xs : List ℕ) : Type 0 where
  pub count : length xs ≡ 256
  pub words : AreWords xs
  pub shape : HasShape xs

pub set_shaped : (xs : List ℕ) (k v : ℕ) → CanHold k v → IsWord v → IsShapedSpecial xs → IsShapedSpecial (slice_set xs k v)
set_shaped xs k v can small f = record {
  count = length-set xs k v ∙ f.count;
  words = words_set xs k v f.words small;
  shape = record {
    sar_fits = held xs k v 3 (λ n. n < 2 ^ 6) (λ e. can.as_sar e) f.shape.sar_fits;
    vecbase_aligned = held xs k v 231 (λ n. n % 2 ^ 10 ≡ 0) (λ e. can.as_vecbase e) f.shape.vecbase_aligned;
  };
}

-- a register that is neither SAR nor VECBASE
other : (k v : ℕ) → k ≢ 3 → k ≢ 231 → CanHold k v
other k v p q = record { as_sar = λ e. absurd (p e); as_vecbase = λ e. absurd (q e) }

set_other : (xs : List ℕ) (k v : ℕ) → k ≢ 3 → k ≢ 231 → IsWord v → IsShapedSpecial xs → IsShapedSpecial (slice_set xs k v)
set_other xs k v p q small f = set_shaped xs k v (other k v p q) small f

-- ---- the tick

timer_shaped : (timer mask : ℕ) (xs : List ℕ) → mask < 2 ^ 32 → IsShapedSpecial xs → IsShapedSpecial (with_timer timer mask xs)
timer_shaped timer mask xs small f = by_test (eqb (slice_index xs (240 + timer)) (slice_index xs 234))
  where
    by_test : (b : Bool) → IsShapedSpecial (cond b (slice_set xs 226 (bit_or (slice_index xs 226) mask)) xs)
    by_test true = set_other xs 226 (bit_or (slice_index xs 226) mask) (omega arith) (omega arith) (or_lt 32 (slice_index xs 226) mask (f.words 226) small) f
    by_test false = f

special_ticked : (xs : List ℕ) → IsShapedSpecial xs → IsShapedSpecial (ticked_special xs)
unfolding ticked_special
special_ticked xs f =
    timer_shaped 2 (2 ^ 16) _ (omega arith)
    (timer_shaped 1 (2 ^ 15) _ (omega arith)
    (timer_shaped 0 (2 ^ 6) _ (omega arith)
    (set_other xs 234 ((slice_index xs 234 + 1) % 2 ^ 32) (omega arith) (omega arith) (omega arith) f)))

-- ---- the control state

special_shaped : (c : Control) → IsShapedControl c → IsShapedSpecial c.special
special_shaped c f = record { count = f.count; words = f.words; shape = f.shape }

control_with : (pc : ℕ) (special : List ℕ) (ps : Ps) (threadptr : ℕ) (waits : Bool) → IsWord pc → IsShapedSpecial special → IsPs ps → IsWord threadptr
    → IsShapedControl (record { pc = pc; special = special; ps = ps; threadptr = threadptr; waits = waits })
control_with pc special ps threadptr waits p f g h = record { pc = p; count = f.count; words = f.words; shape = f.shape; ps = g; threadptr = h }

pub ticked_shaped : (c : Control) → IsShapedControl c → IsShapedControl (after_tick c)
ticked_shaped c f = control_with c.pc (ticked_special c.special) c.ps c.threadptr c.waits f.pc (special_ticked c.special (special_shaped c f)) f.ps f.threadptr

-- a vector
vector_small : (c : Control) (offset : ℕ) → offset < 2 ^ 10 → IsShapedControl c → IsWord (special_of c 231 + offset)
vector_small c offset p f =
    let word : slice_index c.special 231 < 2 ^ 32 = f.words 231 in
    let aligned : slice_index c.special 231 % 2 ^ 10 ≡ 0 = f.shape.vecbase_aligned in
    omega arith

in_exception_mode : (ps : Ps) → IsPs ps → IsPs (record ps { excm = true })
in_exception_mode ps f = record { intlevel_fits = f.intlevel_fits; ring_fits = f.ring_fits; owb_fits = f.owb_fits; callinc_fits = f.callinc_fits }

address_shaped : (address : Option ℕ) (xs : List ℕ) → IsProperAddress address → IsShapedSpecial xs → IsShapedSpecial (with_address address xs)
address_shaped None xs p f = f
address_shaped (Some a) xs p f = set_other xs 238 a (omega arith) (omega arith) p f

entered_special : (c : Control) (place cause : ℕ) (address : Option ℕ) → place ≢ 3 → place ≢ 231 → cause < 64 → IsProperAddress address → IsShapedControl c
    → IsShapedSpecial (with_address address (slice_set (slice_set c.special place c.pc) 232 cause))
entered_special c place cause address p q small a f =
    address_shaped address (slice_set (slice_set c.special place c.pc) 232 cause) a
    (set_other (slice_set c.special place c.pc) 232 cause (omega arith) (omega arith) (omega arith)
    (set_other c.special place c.pc p q f.pc (special_shaped c f)))

pub exception_shaped : (cause : ℕ) (address : Option ℕ) (c : Control) → cause < 64 → IsProperAddress address → IsShapedControl c → IsShapedControl (after_exception cause address c)
unfolding after_exception
exception_shaped cause address c small a f = by_test c.ps.excm
  where
    vector : (b : Bool) → IsWord (special_of c 231 + cond b 0x340 0x300)
    vector true = vector_small c 0x340 (omega arith) f
    vector false = vector_small c 0x300 (omega arith) f

    by_test : (b : Bool) → IsShapedControl (cond b (after_double cause address c) (after_general cause address c))
    by_test true =
        control_with (special_of c 231 + 0x3C0) (with_address address (slice_set (slice_set c.special 192 c.pc) 232 cause)) c.ps c.threadptr c.waits
        (vector_small c 0x3C0 (omega arith) f) (entered_special c 192 cause address (omega arith) (omega arith) small a f) f.ps f.threadptr
    by_test false =
        control_with (special_of c 231 + cond c.ps.um 0x340 0x300) (with_address address (slice_set (slice_set c.special 177 c.pc) 232 cause)) (record c.ps { excm = true }) c.threadptr c.waits
        (vector c.ps.um) (entered_special c 177 cause address (omega arith) (omega arith) small a f) (in_exception_mode c.ps f.ps) f.threadptr

-- ---- interrupts

five_at_most : (a b d : Bool) → cond a 5 (cond b 3 (cond d 1 0)) ≤ 5
five_at_most true b d = omega arith
five_at_most false true d = omega arith
five_at_most false false true = omega arith
five_at_most false false false = omega arith

pub level_small : (interrupt enabled : ℕ) (ps : Ps) → pending_level interrupt enabled ps ≤ 5
unfolding pending_level
level_small interrupt enabled ps = five_at_most _ _ _

high_shaped : (level : ℕ) (c : Control) → level ≤ 5 → IsShapedControl c → IsShapedControl (after_high_level level c)
high_shaped level c small f =
    control_with (special_of c 231 + 0x100 + 0x40 * level) (slice_set (slice_set c.special (176 + level) c.pc) (192 + level) (ps_word c.ps)) (record c.ps { intlevel = level; excm = true }) c.threadptr c.waits
    (let v : special_of c 231 + (0x100 + 0x40 * level) < 2 ^ 32 = vector_small c (0x100 + 0x40 * level) (omega arith) f in omega arith)
    (set_other (slice_set c.special (176 + level) c.pc) (192 + level) (ps_word c.ps) (omega arith) (omega arith) (ps_word_small c.ps f.ps)
    (set_other c.special (176 + level) c.pc (omega arith) (omega arith) f.pc (special_shaped c f)))
    (record { intlevel_fits = omega arith; ring_fits = f.ps.ring_fits; owb_fits = f.ps.owb_fits; callinc_fits = f.ps.callinc_fits })
    f.threadptr

awake : (c : Control) → IsShapedControl c → IsShapedControl (record c { waits = false })
awake c f = control_with c.pc c.special c.ps c.threadptr false f.pc (special_shaped c f) f.ps f.threadptr

pub interrupt_shaped : (level : ℕ) (c : Control) → level ≤ 5 → IsShapedControl c → IsShapedControl (after_interrupt level c)
unfolding after_interrupt
interrupt_shaped level c small f = by_test (eqb level 1)
  where
    by_test : (b : Bool) → IsShapedControl (record (cond b (after_exception 4 None c) (after_high_level level c)) { waits = false })
    by_test true = awake (after_exception 4 None c) (exception_shaped 4 None c (omega arith) tt f)
    by_test false = awake (after_high_level level c) (high_shaped level c small f)

-- ---- window exceptions

pub window_shaped : (base vector : ℕ) (c : Control) → base < 16 → vector < 6 → IsShapedControl c → IsShapedControl (after_window_exception base vector c)
window_shaped base vector c p q f =
    control_with (special_of c 231 + 0x40 * vector) (slice_set c.special 177 c.pc) (record c.ps { owb = base; excm = true }) c.threadptr c.waits
    (vector_small c (0x40 * vector) (omega arith) f)
    (set_other c.special 177 c.pc (omega arith) (omega arith) f.pc (special_shaped c f))
    (record { intlevel_fits = f.ps.intlevel_fits; ring_fits = f.ps.ring_fits; owb_fits = p; callinc_fits = f.ps.callinc_fits })
    f.threadptr

-- ---- effects

pub flow_shaped : (flow : Flow) (len : ℕ) (c : Control) → IsProperFlow flow → IsShapedControl c → IsShapedControl (after_flow flow len c)
flow_shaped (Goes target) len c p f = control_with target c.special c.ps c.threadptr c.waits p (special_shaped c f) f.ps f.threadptr
flow_shaped Falls len c p f = by_test (loops_back (special_of c 1) (special_of c 2) c.ps.excm ((c.pc + len) % 2 ^ 32))
  where
    by_test : (b : Bool) → IsShapedControl (cond b (record c { pc = special_of c 0; special = slice_set c.special 2 (special_of c 2 - 1) }) (record c { pc = (c.pc + len) % 2 ^ 32 }))
    by_test true =
        control_with (special_of c 0) (slice_set c.special 2 (special_of c 2 - 1)) c.ps c.threadptr c.waits (f.words 0)
        (set_other c.special 2 (special_of c 2 - 1) (omega arith) (omega arith) (let w : slice_index c.special 2 < 2 ^ 32 = f.words 2 in omega arith) (special_shaped c f)) f.ps f.threadptr
    by_test false = control_with ((c.pc + len) % 2 ^ 32) c.special c.ps c.threadptr c.waits (omega arith) (special_shaped c f) f.ps f.threadptr

one_set_shaped : (w : Option SpecialWrite) (xs : List ℕ) → IsProperSet w → IsShapedSpecial xs → IsShapedSpecial (with_set w xs)
one_set_shaped None xs p f = f
one_set_shaped (Some w) xs p f = set_shaped xs w.number w.value p.0 p.1 f

pub effect_shaped : (e : Effect) (len : ℕ) (c : Control) → IsProperEffect (λ n. IsWord n) e → IsShapedControl c → IsShapedControl (after_effect e len c)
unfolding after_effect
effect_shaped e len c p f =
    let sets = e.sets in
    flow_shaped e.flow len _ p.flow
    (control_with c.pc (with_set e.sets.2 (with_set e.sets.1 (with_set e.sets.0 c.special))) e.ps e.threadptr e.waits f.pc
    (one_set_shaped e.sets.2 _ p.sets.2 (one_set_shaped e.sets.1 _ p.sets.1 (one_set_shaped e.sets.0 c.special p.sets.0 (special_shaped c f))))
    p.ps p.threadptr)
