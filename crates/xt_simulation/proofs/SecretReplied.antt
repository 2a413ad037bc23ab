-- Two turns that agree before their replies agree after them.
use Rattle.std.proofs.Common.{◌≡◌, ℕ, ◌^◌, ◌<◌, Option, Some, None, List, slice_index, slice_set, refl, sym, ap, ◌∙◌, subst}
use Rattle.std.proofs.lemmas.List.{set-get_or}
use Rattle.xt_isa.specs.declared.Insn.{Insn}
use Rattle.xt_map.specs.declared.access.Access.{Access}
use Rattle.xt_window.specs.Ring.{place, visible}
use Rattle.xt_trace.specs.declared.record.RegWrite.{RegWrite}
use Rattle.xt_rows.specs.declared.outcome.ReplyTarget.{ReplyTarget}
use Rattle.xt_rows.specs.Numbers.{loaded_value}
use Rattle.xt_rows.specs.Operands.{reads}
use Rattle.xt_rows.specs.Outcomes.{value_of}
use Rattle.xt_rows.specs.Settling.{write_with_reply}
use Rattle.xt_exec.specs.State.{State}
use Rattle.xt_exec.specs.Turn.{Planned, with_write}
use Rattle.xt_uses.specs.declared.words.Word.{Word}
use Rattle.xt_uses.specs.Words.{Fits, all_bits}
use Rattle.xt_uses.specs.UseLaws.{AgreeIn, WritesAgree}
use Rattle.xt_uses.proofs.Agreeing.{moved_agrees}
use Rattle.xt_uses.proofs.Moves.{extended_moves}
use Rattle.xt_simulation.specs.Knowledge.{Knowledge, StatesAgree, register_word, first_word, second_word}
use Rattle.xt_simulation.specs.Learning.{common_mask, doubtful, known_past, regs_past, regs_written, stored_in, ticked_masks, with_mask, written_mask}
use Rattle.xt_simulation.specs.SecretLaws.{AccessAgrees, FitsAccess, SentAgrees, TurnWritesAgree, WriteAgrees}
use Rattle.xt_simulation.proofs.Likes.{common_first, common_second, set_both}
use Rattle.xt_simulation.proofs.SecretSpecials.{with_other, with_this}
use Rattle.xt_simulation.proofs.Controls.{Commons, Controls}
use Rattle.xt_simulation.proofs.Readings.{Two, other, register_fits, register_same}
use Rattle.xt_simulation.proofs.SecretRows.{Made, May}
use Rattle.xt_simulation.proofs.SecretPlans.{Agrees, Silent, Stays, Waits}

-- ---- what is written with a reply

made_none : (d : Option ℕ) (mask new x y : ℕ) (v w : Option RegWrite) (access : Option Access) → Made d mask x y v w → Silent access v w → (access ≡ None → mask ≡ new) → Made d new x y v w
made_none (Some r) mask new x y v w access made silent same = made
made_none None mask new x y v w None made silent same = subst (λ (n : ℕ). WritesAgree n v w) (same refl) made
made_none None mask new x y v w (Some a) made silent same =
    subst (λ (o : Option RegWrite). WritesAgree new o w) (sym silent.0) (subst (λ (o : Option RegWrite). WritesAgree new None o) (sym silent.1) tt)

made_writes : (d : Option ℕ) (mask x y : ℕ) (v w : Option RegWrite) → Made d mask x y v w → WriteAgrees d mask v w
made_writes None mask x y v w made = made
made_writes (Some r) mask x y None None made = (tt, tt)
made_writes (Some r) mask x y None (Some w) made = (tt, made.1.0)
made_writes (Some r) mask x y (Some v) None made = (made.0.0, tt)
made_writes (Some r) mask x y (Some v) (Some w) made = (made.0.0, made.1.0)

-- ---- a register that is written

module _ (m : Knowledge) (s : State) (rs ys : List ℕ) (k : ℕ) (h : Two m s rs ys k) where
  abbrev t : State
  t = other s rs ys k

  set_regs : (at a b mask : ℕ) → AgreeIn mask a b → (j : ℕ) → AgreeIn (with_mask at mask m.regs j) (slice_index (slice_set s.regs at a) j) (slice_index (slice_set rs at b) j)
  set_regs at a b mask same j =
      set_both s.regs rs at a b j (λ x y. AgreeIn (with_mask at mask m.regs j) x y) (h.first.count ∙ sym h.second.count) (λ x. refl)
      (λ e. subst (λ (i : ℕ). AgreeIn (with_mask at mask m.regs i) a b) (sym e) (subst (λ (n : ℕ). AgreeIn n a b) (sym (with_this at mask m.regs)) same))
      (λ d. subst (λ (n : ℕ). AgreeIn n (slice_index s.regs j) (slice_index rs j)) (sym (with_other at mask m.regs j d)) (h.agree.regs j))

  -- the values of a register before a conditional move and of its source have the common bits
  module _ (i : Insn) (r : ℕ) where
    abbrev at : ℕ
    at = place s.base r

    abbrev old : Word
    old = register_word m s (Some r)

    abbrev source : Word
    source = first_word i m s

    abbrev common : ℕ
    common = common_mask old source

    mine : (v : Option RegWrite) → May r (value_of (visible s.regs s.base) (reads i).0) v → ℕ
    mine None may = slice_index s.regs at
    mine (Some w) may = w.value

    theirs : (v : Option RegWrite) → May r (value_of (visible rs s.base) (reads i).0) v → ℕ
    theirs None may = slice_index rs at
    theirs (Some w) may = w.value

    mine_agrees : (v : Option RegWrite) (may : May r (value_of (visible s.regs s.base) (reads i).0) v) → AgreeIn common (mine v may) source.value
    unfolding mine
    mine_agrees None may = common_first old source (h.masks.regs at) (slice_index s.regs at) refl
    mine_agrees (Some w) may =
        subst (λ (n : ℕ). AgreeIn common n source.value) (sym may.1) (common_second old source (h.masks.regs at) (value_of (visible s.regs s.base) (reads i).0) (register_fits m h.masks s h.first (reads i).0))

    source_fits : Fits (value_of (visible rs s.base) (reads i).0) source
    source_fits = subst (λ (w : Word). Fits (value_of (visible rs s.base) (reads i).0) w) (sym (register_same m s rs ys k h (reads i).0)) (register_fits m h.masks t h.second (reads i).0)

    theirs_agrees : (v : Option RegWrite) (may : May r (value_of (visible rs s.base) (reads i).0) v) → AgreeIn common (theirs v may) source.value
    unfolding theirs
    theirs_agrees None may = common_first old source (h.masks.regs at) (slice_index rs at) (sym (h.agree.regs at))
    theirs_agrees (Some w) may = subst (λ (n : ℕ). AgreeIn common n source.value) (sym may.1) (common_second old source (h.masks.regs at) (value_of (visible rs s.base) (reads i).0) source_fits)

    -- the registers after it
    mine_set : (v : Option RegWrite) (may : May r (value_of (visible s.regs s.base) (reads i).0) v) (p : State) → p.regs ≡ s.regs → p.base ≡ s.base → (with_write v p).regs ≡ slice_set s.regs at (mine v may)
    unfolding mine
    mine_set None may p regs base = regs ∙ sym (set-get_or s.regs at 0)
    mine_set (Some w) may p regs base = λ j. slice_set (regs j) (place (base j) (may.0 j)) w.value

    theirs_set : (v : Option RegWrite) (may : May r (value_of (visible rs s.base) (reads i).0) v) (p : State) → p.regs ≡ rs → p.base ≡ s.base → (with_write v p).regs ≡ slice_set rs at (theirs v may)
    unfolding theirs
    theirs_set None may p regs base = regs ∙ sym (set-get_or rs at 0)
    theirs_set (Some w) may p regs base = λ j. slice_set (regs j) (place (base j) (may.0 j)) w.value

    doubt_regs : (v w : Option RegWrite) (mv : May r (value_of (visible s.regs s.base) (reads i).0) v) (mw : May r (value_of (visible rs s.base) (reads i).0) w) (p q : State) → p.regs ≡ s.regs → q.regs ≡ rs → p.base ≡ s.base
        → q.base ≡ s.base → (j : ℕ) → AgreeIn (with_mask at common m.regs j) (slice_index (with_write v p).regs j) (slice_index (with_write w q).regs j)
    doubt_regs v w mv mw p q pr qr pb qb j =
        subst (λ (l : List ℕ). AgreeIn (with_mask at common m.regs j) (slice_index l j) (slice_index (with_write w q).regs j)) (sym (mine_set v mv p pr pb))
        (subst (λ (l : List ℕ). AgreeIn (with_mask at common m.regs j) (slice_index (slice_set s.regs at (mine v mv)) j) (slice_index l j)) (sym (theirs_set w mw q qr qb))
        (set_regs at (mine v mv) (theirs w mw) common (mine_agrees v mv ∙ sym (theirs_agrees w mw)) j))

  base_kept : (v : Option RegWrite) (p : State) → (with_write v p).base ≡ p.base
  base_kept None p = refl
  base_kept (Some w) p = refl

  sure_regs : (v w : Option RegWrite) (mask : ℕ) (p q : State) → WritesAgree mask v w → p.regs ≡ s.regs → q.regs ≡ rs → p.base ≡ q.base
      → (j : ℕ) → AgreeIn (regs_written v (with_write v p).base mask m.regs j) (slice_index (with_write v p).regs j) (slice_index (with_write w q).regs j)
  sure_regs None None mask p q same pr qr base j =
      subst (λ (l : List ℕ). AgreeIn (m.regs j) (slice_index l j) (slice_index q.regs j)) (sym pr) (subst (λ (l : List ℕ). AgreeIn (m.regs j) (slice_index s.regs j) (slice_index l j)) (sym qr) (h.agree.regs j))
  sure_regs None (Some w) mask p q same pr qr base j = absurd same
  sure_regs (Some v) None mask p q same pr qr base j = absurd same
  sure_regs (Some v) (Some w) mask p q same pr qr base j =
      subst (λ (l : List ℕ). AgreeIn (with_mask (place p.base v.reg) mask m.regs j) (slice_index (slice_set l (place p.base v.reg) v.value) j) (slice_index (slice_set q.regs (place q.base w.reg) w.value) j)) (sym pr)
      (subst (λ (l : List ℕ). AgreeIn (with_mask (place p.base v.reg) mask m.regs j) (slice_index (slice_set s.regs (place p.base v.reg) v.value) j) (slice_index l j)) (sym (λ n. slice_set (qr n) (place (sym base n) (sym same.0 n)) w.value))
      (set_regs (place p.base v.reg) v.value w.value mask same.1 j))

  made_regs : (i : Insn) (reply : ℕ) (d : Option ℕ) (v w : Option RegWrite) (p q : Planned) → Made d (written_mask i reply m s) (value_of (visible s.regs s.base) (reads i).0) (value_of (visible rs s.base) (reads i).0) v w
      → Stays d s p → p.after.regs ≡ s.regs → q.after.regs ≡ rs → p.after.base ≡ q.after.base
      → (j : ℕ) → AgreeIn (regs_past i d v (with_write v p.after).base reply m s j) (slice_index (with_write v p.after).regs j) (slice_index (with_write w q.after).regs j)
  made_regs i reply None v w p q made stays pr qr base j = sure_regs v w (written_mask i reply m s) p.after q.after made pr qr base j
  made_regs i reply (Some r) v w p q made stays pr qr base j =
      subst (λ (b : ℕ). AgreeIn (with_mask (place b r) (common_mask (register_word m s (Some r)) (first_word i m s)) m.regs j) (slice_index (with_write v p.after).regs j) (slice_index (with_write w q.after).regs j))
      (sym (base_kept v p.after ∙ stays)) (doubt_regs i r v w made.0 made.1 p.after q.after pr qr stays (sym base ∙ stays) j)

-- ---- states

states_agree : (m : Knowledge) (v w : Option RegWrite) (p q : State) → p.base ≡ q.base → p.start ≡ q.start → Controls m.special m.threadptr p.control q.control
    → ((j : ℕ) → AgreeIn (m.regs j) (slice_index (with_write v p).regs j) (slice_index (with_write w q).regs j)) → StatesAgree m (with_write v p) (with_write w q)
states_agree m None None p q base start c regs =
    record { pc = c.pc; base = base; start = start; ps = c.ps; waits = c.waits; regs = regs; special = λ n. (c.special.same n).bits; threadptr = c.threadptr }
states_agree m None (Some w) p q base start c regs =
    record { pc = c.pc; base = base; start = start; ps = c.ps; waits = c.waits; regs = regs; special = λ n. (c.special.same n).bits; threadptr = c.threadptr }
states_agree m (Some v) None p q base start c regs =
    record { pc = c.pc; base = base; start = start; ps = c.ps; waits = c.waits; regs = regs; special = λ n. (c.special.same n).bits; threadptr = c.threadptr }
states_agree m (Some v) (Some w) p q base start c regs =
    record { pc = c.pc; base = base; start = start; ps = c.ps; waits = c.waits; regs = regs; special = λ n. (c.special.same n).bits; threadptr = c.threadptr }

-- ---- both turns with their replies

module _ (m : Knowledge) (s : State) (rs ys : List ℕ) (k : ℕ) (h : Two m s rs ys k) (known : Commons m.special) (p q : Planned) (reply v w : ℕ) (small : reply < 2 ^ 32) (vs : v < 2 ^ 32) (ws : w < 2 ^ 32)
    (replies : AgreeIn reply v w) (fits : FitsAccess p.access reply) where
  abbrev first : Option RegWrite
  first = write_with_reply p.write p.awaited v

  abbrev second : Option RegWrite
  second = write_with_reply q.write q.awaited w

  is_whole_reply : p.access ≡ None → all_bits ≡ reply
  is_whole_reply none = sym (subst (λ (a : Option Access). FitsAccess a reply) none fits)

  module _ (i : Insn) (a : Agrees m s rs ys k h known (Some i) p q) where
    abbrev d : Option ℕ
    d = doubtful i (second_word i m s)

    abbrev x : ℕ
    x = value_of (visible s.regs s.base) (reads i).0

    abbrev y : ℕ
    y = value_of (visible rs s.base) (reads i).0

    awaited_made : (o : Option ReplyTarget) → Waits m s rs ys k h known i o → Made d (written_mask i reply m s) x y (write_with_reply p.write o v) (write_with_reply q.write o w)
    awaited_made None waits = made_none d (written_mask i all_bits m s) (written_mask i reply m s) x y p.write q.write p.access a.0.write a.0.silent (λ none. ap (λ (n : ℕ). written_mask i n m s) (is_whole_reply none))
    awaited_made (Some z) waits =
        subst (λ (o : Option ℕ). Made o (written_mask i reply m s) x y (write_with_reply p.write (Some z) v) (write_with_reply q.write (Some z) w)) (sym waits.0)
        (refl, subst (λ (n : ℕ). AgreeIn n (loaded_value z.signed v) (loaded_value z.signed w)) (sym (waits.1 reply)) (moved_agrees (λ n. loaded_value z.signed n) reply v w small vs ws replies (extended_moves z.signed)))

    made : Made d (written_mask i reply m s) x y first second
    made = subst (λ (o : Option ReplyTarget). Made d (written_mask i reply m s) x y first (write_with_reply q.write o w)) a.0.awaited (awaited_made p.awaited a.2)

    insn_after : StatesAgree (known_past (Some i) first (with_write first p.after).base reply m s) (with_write first p.after) (with_write second q.after)
    unfolding known_past
    insn_after =
        states_agree (known_past (Some i) first (with_write first p.after).base reply m s) first second p.after q.after a.0.base a.0.start a.0.control
        (made_regs m s rs ys k h i reply d first second p q made a.1 a.0.first_regs a.0.second_regs a.0.base)

  nothing_written : (o x : Option ReplyTarget) (u z : Option RegWrite) → o ≡ None → x ≡ o → u ≡ None → z ≡ u → (write_with_reply u o v ≡ None) × (write_with_reply z x w ≡ None)
  nothing_written o x u z e f g n = (
    ap (λ (c : Option ReplyTarget). write_with_reply u c v) e ∙ g,
    ap (λ (c : Option ReplyTarget). write_with_reply z c w) (f ∙ e) ∙ (n ∙ g),
  )

  module _ (a : Agrees m s rs ys k h known None p q) where
    none : (first ≡ None) × (second ≡ None)
    none = nothing_written p.awaited q.awaited p.write q.write a.1 (sym a.0.awaited) a.2 (sym a.0.write)

    idle_after : StatesAgree (known_past None first (with_write first p.after).base reply m s) (with_write first p.after) (with_write second q.after)
    unfolding known_past
    idle_after =
        subst (λ (u : Option RegWrite). StatesAgree after (with_write u p.after) (with_write second q.after)) (sym none.0)
        (subst (λ (u : Option RegWrite). StatesAgree after p.after (with_write u q.after)) (sym none.1)
        (states_agree after None None p.after q.after a.0.base a.0.start a.0.control (sure_regs m s rs ys k h None None 0 p.after q.after tt a.0.first_regs a.0.second_regs a.0.base)))
      where
        after : Knowledge
        after = record m { special = ticked_masks m.special }

  pub turn_writes : (o : Option Insn) → Agrees m s rs ys k h known o p q → TurnWritesAgree o reply m s first second
  turn_writes None a = (none a).0 ∙ sym (none a).1
  turn_writes (Some i) a = made_writes (doubtful i (second_word i m s)) (written_mask i reply m s) _ _ first second (made i a)

  pub turn_after : (o : Option Insn) → Agrees m s rs ys k h known o p q → StatesAgree (known_past o first (with_write first p.after).base reply m s) (with_write first p.after) (with_write second q.after)
  turn_after None a = idle_after a
  turn_after (Some i) a = insn_after i a

  pub turn_access : (o : Option Insn) → Agrees m s rs ys k h known o p q → AccessAgrees (stored_in o m s) p.access q.access
  turn_access None a = a.0.access
  turn_access (Some i) a = a.0.access

  pub turn_kind : (o : Option Insn) → Agrees m s rs ys k h known o p q → p.kind ≡ q.kind
  turn_kind None a = a.0.kind
  turn_kind (Some i) a = a.0.kind

  pub turn_sent : (o : Option Insn) → Agrees m s rs ys k h known o p q → SentAgrees p.access q.access
  turn_sent None a = a.0.sent
  turn_sent (Some i) a = a.0.sent
