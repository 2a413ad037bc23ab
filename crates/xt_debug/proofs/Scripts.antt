-- A script with one command more, and what is left of a script.
use Rattle.std.proofs.Common.{◌≡◌, ℕ, ◌+◌, ◌<◌, ◌≤◌, true, false, List, [], ◌∷◌, ◌++◌, length, take, drop, get_or, sym, ap, ◌∙◌, if◌then◌else◌}
use mathlib.Core.List.{append_assoc, append-nil}
use Rattle.std.proofs.lemmas.Bool.{cond-true, cond-false}
use Rattle.std.proofs.lemmas.List.{drop_more, drop_all, take_more}
use Rattle.xt_trace.specs.declared.run.Run.{Run}
use Rattle.xt_image.specs.declared.image.Image.{Image}
use Rattle.xt_command_line.specs.declared.beyond.Beyond.{Beyond}
use Rattle.xt_command_line.specs.declared.beyond.Beyond.TheVariants.{Ends, GoesOn}
use Rattle.xt_debug.specs.declared.script.Command.{Command}
use Rattle.xt_debug.specs.Scripts.{Outcome, after, outcome, script_outcome, stops}

-- what is printed and where the replay stands, where a command comes after others and the script
-- goes on
abbrev pub past : Image → Run → Outcome → Command → Outcome
past image r o c = record {
  text = o.text ++ (outcome image r c o.position).text;
  position = (outcome image r c o.position).position;
  beyond = false;
}

abbrev onto : List ℕ → Outcome → Outcome
onto text o = record { text = text ++ o.text; position = o.position; beyond = o.beyond }

pub one_command_more : (image : Image) (r : Run) (cs : List Command) (c : Command) (p : ℕ) → script_outcome GoesOn image r (cs ++ c ∷ []) p ≡ past image r (script_outcome GoesOn image r cs p) c
one_command_more image r [] c p = ap (λ text. record { text = text; position = (outcome image r c p).position; beyond = false }) (append-nil (outcome image r c p).text)
one_command_more image r (d ∷ cs) c p =
    let h = outcome image r d p in
    let o = script_outcome GoesOn image r cs h.position in
    let g = outcome image r c o.position in
    ap (onto h.text) (one_command_more image r cs c h.position)
    ∙ ap (λ text. record { text = text; position = g.position; beyond = false }) (sym (append_assoc h.text o.text g.text))

pub next_command : (image : Image) (r : Run) (cs : List Command) (i p : ℕ) (d : Command) → i < length cs
    → script_outcome GoesOn image r (take (i + 1) cs) p ≡ past image r (script_outcome GoesOn image r (take i cs) p) (get_or cs i d)
next_command image r cs i p d below =
    ap (λ xs. script_outcome GoesOn image r xs p) (take_more cs i d below) ∙ one_command_more image r (take i cs) (get_or cs i d) p

-- the first commands, and then what is left
abbrev pub split : Beyond → Image → Run → List Command → ℕ → ℕ → Outcome
split b image r cs p i =
    let o = script_outcome GoesOn image r (take i cs) p in
    after o (script_outcome b image r (drop i cs) o.position)

-- the next command, and then what is left
at_next : (b : Beyond) (image : Image) (r : Run) (cs : List Command) (i p : ℕ) (d : Command) → i < length cs
    → (let o = script_outcome GoesOn image r (take i cs) p in
    let here = outcome image r (get_or cs i d) o.position in
    split b image r cs p i ≡ after o (if stops b here then here else after here (script_outcome b image r (drop (i + 1) cs) here.position)))
at_next b image r cs i p d below =
    let o = script_outcome GoesOn image r (take i cs) p in ap (λ xs. after o (script_outcome b image r xs o.position)) (drop_more cs i d below)

pub goes_on : (b : Beyond) (image : Image) (r : Run) (cs : List Command) (i p : ℕ) (d : Command) → i < length cs
    → stops b (outcome image r (get_or cs i d) (script_outcome GoesOn image r (take i cs) p).position) ≡ false
    → split b image r cs p i ≡ split b image r cs p (i + 1)
goes_on b image r cs i p d below on =
    let o = script_outcome GoesOn image r (take i cs) p in
    let here = outcome image r (get_or cs i d) o.position in
    let rest = script_outcome b image r (drop (i + 1) cs) here.position in
    at_next b image r cs i p d below
    ∙ (ap (after o) (cond-false (stops b here) here (after here rest) on)
    ∙ (ap (λ text. record { text = text; position = rest.position; beyond = rest.beyond }) (sym (append_assoc o.text here.text rest.text))
    ∙ ap (λ u. after u (script_outcome b image r (drop (i + 1) cs) u.position)) (sym (next_command image r cs i p d below))))

pub ends_here : (b : Beyond) (image : Image) (r : Run) (cs : List Command) (i p : ℕ) (d : Command) → i < length cs
    → stops b (outcome image r (get_or cs i d) (script_outcome GoesOn image r (take i cs) p).position) ≡ true
    → split b image r cs p i ≡ (let o = script_outcome GoesOn image r (take i cs) p in after o (outcome image r (get_or cs i d) o.position))
ends_here b image r cs i p d below on =
    let o = script_outcome GoesOn image r (take i cs) p in
    let here = outcome image r (get_or cs i d) o.position in
    let rest = script_outcome b image r (drop (i + 1) cs) here.position in
    at_next b image r cs i p d below ∙ ap (after o) (cond-true (stops b here) here (after here rest) on)

pub all_done : (b : Beyond) (image : Image) (r : Run) (cs : List Command) (i p : ℕ) → length cs ≤ i
    → split b image r cs p i ≡ (let o = script_outcome GoesOn image r (take i cs) p in record { text = o.text; position = o.position; beyond = false })
all_done b image r cs i p past_all =
    let o = script_outcome GoesOn image r (take i cs) p in
    ap (λ xs. after o (script_outcome b image r xs o.position)) (drop_all i cs past_all)
    ∙ ap (λ text. record { text = text; position = o.position; beyond = false }) (append-nil o.text)

-- a script that ends at a command was led beyond the run by it
pub led_beyond : (b : Beyond) (o : Outcome) → stops b o ≡ true → true ≡ o.beyond
led_beyond Ends o e = sym e
led_beyond GoesOn o e = absurd (cc)
