-- The entries that a step makes, as a part of the history.
use Rattle.std.proofs.Common.{◌≡◌, ℕ, suc, ◌+◌, ◌-◌, ◌≤◌, false, List, length, take, drop, sym, ap, ◌∙◌, arith}
use Rattle.std.specs.List.{list_any}
use Rattle.std.proofs.lemmas.List.{drop-take, drop_all, length-take}
use Rattle.xt_map.specs.declared.access.Entry.{Entry}
use Rattle.xt_replay.specs.Shown.{ReplayState, replay_at}
use Rattle.xt_debug.specs.Searches.{entries_before, entries_made, stores_at, stores_word}

-- the history before the next position
next_entries : (old new : ReplayState) (a : ℕ) → new ≡ replay_at old (old.position + 1) → entries_before new.image new.run new.position ≡ take a new.run.history → entries_before old.image old.run (suc old.position) ≡ take a new.run.history
next_entries old new a here after =
    let next : suc old.position ≡ old.position + 1 = omega arith in
    ap (λ k. entries_before old.image old.run k) next ∙ sym (ap (λ (s : ReplayState). entries_before s.image s.run s.position) here) ∙ after

made_is : (old new : ReplayState) (b a : ℕ) → new ≡ replay_at old (old.position + 1) → b ≡ length (entries_before old.image old.run old.position) → entries_before new.image new.run new.position ≡ take a new.run.history → drop b (take a new.run.history) ≡ entries_made old.image old.run old.position
made_is old new b a here before after =
    ap (λ xs. drop b xs) (sym (next_entries old new a here after)) ∙ ap (λ n. drop n (entries_before old.image old.run (suc old.position))) before

pub some_made : (old new : ReplayState) (addr b a : ℕ) (part : List Entry) → new ≡ replay_at old (old.position + 1) → b ≡ length (entries_before old.image old.run old.position) → entries_before new.image new.run new.position ≡ take a new.run.history → b ≤ a → part ≡ take (a - b) (drop b new.run.history) → list_any (stores_at addr) part ≡ stores_word old.image old.run addr old.position
unfolding stores_word
some_made old new addr b a part here before after le is =
    let H = new.run.history in
    let sum : a ≡ b + (a - b) = omega arith in
    let cut : drop b (take a H) ≡ take (a - b) (drop b H) = ap (λ k. drop b (take k H)) sum ∙ drop-take b (a - b) H in
    ap (list_any (stores_at addr)) (is ∙ sym cut ∙ made_is old new b a here before after)

pub none_made : (old new : ReplayState) (addr b a : ℕ) → new ≡ replay_at old (old.position + 1) → b ≡ length (entries_before old.image old.run old.position) → entries_before new.image new.run new.position ≡ take a new.run.history → a ≤ b → false ≡ stores_word old.image old.run addr old.position
unfolding stores_word
none_made old new addr b a here before after le =
    let H = new.run.history in
    let short : length (take a H) ≤ b = omega (arith, length-take a H) in
    ap (list_any (stores_at addr)) (sym (drop_all b (take a H) short) ∙ made_is old new b a here before after)
