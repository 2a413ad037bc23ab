-- A tally past one step more.
use Rattle.std.proofs.Common.{Vec, Global, ◌≡◌, ℕ, suc, ◌+◌, ◌-◌, ◌<◌, ◌≤◌, ◌^◌, Bool, true, false, if◌then◌else◌, Option, Some, None, List, [], ◌∷◌, ◌++◌, length, map, take, replicate, refl, sym, ap, ap₂, subst, ◌∙◌, arith}
use Rattle.std.specs.declared.cmp.Ordering.{Ordering}
use Rattle.std.specs.declared.cmp.Ordering.TheVariants.{Less, Equal, Greater}
use Rattle.std.specs.Ordering.{is_eq, match_ordering, nat_cmp}
use Rattle.std.specs.Cmp.Lexicographic.{slice_cmp}
use Rattle.std.specs.Map.{lookup}
use Rattle.std.specs.BTreeMap.{insert_entry}
use Rattle.std.proofs.lemmas.List.{append-nil, append_assoc, length-append, length-replicate, take-append-le, take_all}
use Rattle.xt_frames.specs.declared.kinds.HandlerPhase.{HandlerPhase}
use Rattle.xt_frames.specs.declared.kinds.HandlerPhase.TheVariants.{Outside, InHandler, Nested}
use Rattle.xt_profile.specs.declared.profiles.CoreTurns.{CoreTurns}
use Rattle.xt_profile.specs.declared.profiles.ProfileLine.{ProfileLine}
use Rattle.xt_profile.specs.declared.tally.Tally.{Tally}
use Rattle.xt_profile.specs.After.{in_front}
use Rattle.xt_profile.specs.Steps.{Step, frames_standing}
use Rattle.xt_profile.specs.Keys.{Start, functions, handlers, keys, shown_key, with_handler, with_key}
use Rattle.xt_profile.specs.Counts.{compare, count_of, is_same, lines}
use Rattle.xt_profile.specs.Profiled.{turns_past}
use Rattle.xt_profile.specs.CountedSteps.{AreCounted, IsTally, Origin, count_in, from_here, origin, puts, line_of_entry}
use Rattle.xt_profile.proofs.Putting.{count_found, row_puts}
use Rattle.xt_profile.proofs.Pushing.{functions_length, functions_past, functions_same}

-- ---- how many there are
one_key : (a b c : ℕ) → a + b ≡ c → suc a + b ≡ suc c
one_key a b c e = omega (arith, e)

one_handler : (a b c : ℕ) → a + b ≡ c → a + suc b ≡ suc c
one_handler a b c e = omega (arith, e)

pub keys_case : (m : HandlerPhase) (k : List ℕ) (ks : List (List ℕ)) (h n : ℕ) → length ks + h ≡ n → length (with_key m k ks) + with_handler m h ≡ suc n
keys_case Outside k ks h n e = one_key (length ks) h n e
keys_case InHandler k ks h n e = one_handler (length ks) h n e
keys_case Nested k ks h n e = one_key (length ks) h n e

-- each step has a key or is a handler step
pub keys_count : (opening : Start) (past : List Step) → length (keys opening past) + handlers past ≡ length past
keys_count opening [] = refl
keys_count opening (s ∷ past) = keys_case s.phase (shown_key opening.depth (functions opening.pc s.before past)) (keys opening past) (handlers past) (length past) (keys_count opening past)

handlers_case : (m : HandlerPhase) (a b n : ℕ) → n ≡ a + b → with_handler m n ≡ with_handler m a + b
handlers_case Outside a b n e = e
handlers_case InHandler a b n e = omega (arith, e)
handlers_case Nested a b n e = e

first_none : (n : ℕ) → n ≡ 0 + n
first_none n = omega arith

handlers_append : (xs ys : List Step) → handlers (xs ++ ys) ≡ handlers xs + handlers ys
handlers_append [] ys = first_none (handlers ys)
handlers_append (s ∷ xs) ys = handlers_case s.phase (handlers xs) (handlers ys) (handlers (xs ++ ys)) (handlers_append xs ys)

sum_of : (k h n r l s x k1 h1 n1 h2 n2 : ℕ) → k + h ≡ n → k ≡ r + (l + k1) → k1 + h1 ≡ n1 → h ≡ h2 + h1 → n ≡ n2 + n1 → x ≡ h2 → s ≡ n2 → r + l + x ≡ s
sum_of k h n r l s x k1 h1 n1 h2 n2 e1 e2 e3 e4 e5 e6 e7 = omega (arith, e1, e2, e3, e4, e5, e6, e7)

in_a_row : (n : ℕ) (k : List ℕ) (ks : List (List ℕ)) → length (replicate n k ++ ks) ≡ n + length ks
in_a_row n k ks = length-append (replicate n k) ks ∙ ap (λ (m : ℕ). m + length ks) (length-replicate n k)

pub counted_sum : (o : Origin) (past : List Step) (t : Tally) → (h : AreCounted o past t) → t.row + length h.told + t.handlers ≡ t.steps
counted_sum o past t h =
    let k = shown_key o.start.depth t.functions.items in
    let before = keys o.start o.first in
    let len : length (keys o.start past) ≡ t.row + (length h.told + length before) =
    ap (λ (ks : List (List ℕ)). length ks) h.keys_are ∙ (in_a_row t.row k (h.told ++ before) ∙ ap (λ (n : ℕ). t.row + n) (length-append h.told before)) in
    sum_of (length (keys o.start past)) (handlers past) (length past) t.row (length h.told) t.steps t.handlers (length before) (handlers o.first) (length o.first) (handlers h.later) (length h.later)
    (keys_count o.start past) len (keys_count o.start o.first) (ap handlers h.past_is ∙ handlers_append h.later o.first) (ap (λ (q : List Step). length q) h.past_is ∙ length-append h.later o.first) h.handlers_are h.steps_are

-- no more are counted than there are, and all if none came first
some_le : (s p a b : ℕ) → s ≡ a → p ≡ a + b → s ≤ p
some_le s p a b e f = omega (arith, e, f)

pub steps_within : (o : Origin) (past : List Step) (t : Tally) → AreCounted o past t → t.steps ≤ length past
steps_within o past t h = some_le t.steps (length past) (length h.later) (length o.first) h.steps_are (ap (λ (q : List Step). length q) h.past_is ∙ length-append h.later o.first)

all_are : (s p a b : ℕ) → s ≡ a → p ≡ a + b → b ≡ 0 → s ≡ p
all_are s p a b e f g = omega (arith, e, f, g)

pub steps_whole : (o : Origin) (past : List Step) (t : Tally) → o.first ≡ [] → AreCounted o past t → t.steps ≡ length past
steps_whole o past t none h =
    all_are t.steps (length past) (length h.later) (length o.first) h.steps_are (ap (λ (q : List Step). length q) h.past_is ∙ length-append h.later o.first) (ap (λ (q : List Step). length q) none)

-- no key counts more than there are
count_case : (b : Bool) (c n : ℕ) → c ≤ n → (if b then suc c else c) ≤ suc n
count_case true c n e = omega (arith, e)
count_case false c n e = omega (arith, e)

nothing_less : 0 ≤ 0
nothing_less = omega arith

count_le : (k : List ℕ) (ks : List (List ℕ)) → count_of k ks ≤ length ks
count_le k [] = nothing_less
count_le k (q ∷ ks) = count_case (is_same k q) (count_of k ks) (length ks) (count_le k ks)

small : (c l r h s : ℕ) → c ≤ l → r + l + h ≡ s → s < 2 ^ 32 → c + r < 2 ^ 32
small c l r h s e f g = omega (arith, e, f, g)

pub count_fits : (o : Origin) (past : List Step) (t : Tally) (k : List ℕ) → AreCounted o past t → t.steps < 2 ^ 32 → count_in k (map line_of_entry t.counts.entries) + t.row < 2 ^ 32
count_fits o past t k h room =
    let found : count_in k (map line_of_entry t.counts.entries) ≡ count_of k h.told = ap (count_in k) h.lines_are ∙ count_found k h.told in
    small (count_in k (map line_of_entry t.counts.entries)) (length h.told) t.row t.handlers t.steps (subst (λ (c : ℕ). c ≤ length h.told) (sym found) (count_le k h.told)) (counted_sum o past t h) room

row_le : (r l h s : ℕ) → r + l + h ≡ s → r ≤ s
row_le r l h s e = omega (arith, e)

handlers_le : (r l h s : ℕ) → r + l + h ≡ s → h ≤ s
handlers_le r l h s e = omega (arith, e)

pub row_fits : (o : Origin) (past : List Step) (t : Tally) → AreCounted o past t → t.row ≤ t.steps
row_fits o past t h = row_le t.row (length h.told) t.handlers t.steps (counted_sum o past t h)

pub handlers_fit : (o : Origin) (past : List Step) (t : Tally) → AreCounted o past t → t.handlers ≤ t.steps
handlers_fit o past t h = handlers_le t.row (length h.told) t.handlers t.steps (counted_sum o past t h)

-- ---- a step more
one_up : (n : ℕ) → n + 1 ≡ suc n
one_up n = omega arith

more_steps : (n m : ℕ) → n ≡ m → n + 1 ≡ suc m
more_steps n m e = omega (arith, e)

-- the key of a step past these
key_here : (o : Origin) (past : List Step) (s : Step) (t : Tally) → IsTally o past t → s.before ≡ frames_standing past → shown_key o.start.depth (functions o.start.pc s.before past) ≡ shown_key o.start.depth t.functions.items
key_here o past s t h e = ap (λ (n : ℕ). shown_key o.start.depth (functions o.start.pc n past)) e ∙ ap (shown_key o.start.depth) (sym h.functions_are)

keys_more : (o : Origin) (past : List Step) (s : Step) (t : Tally) → (h : IsTally o past t) → s.before ≡ frames_standing past
    → shown_key o.start.depth (functions o.start.pc s.before past) ∷ keys o.start past ≡ replicate (t.row + 1) (shown_key o.start.depth t.functions.items) ++ (h.counted.told ++ keys o.start o.first)
keys_more o past s t h e =
    let k = shown_key o.start.depth t.functions.items in
    ap₂ (λ (x : List ℕ) (ks : List (List ℕ)). x ∷ ks) (key_here o past s t h e) h.counted.keys_are
    ∙ ap (λ (n : ℕ). replicate n k ++ (h.counted.told ++ keys o.start o.first)) (sym (one_up t.row))

pub counted_plain : (o : Origin) (past : List Step) (s : Step) (t : Tally) → IsTally o past t → s.phase ≡ Outside → s.before ≡ frames_standing past → AreCounted o (s ∷ past) (record t { row = t.row + 1; steps = t.steps + 1 })
counted_plain o past s t h m e = record {
  later = s ∷ h.counted.later;
  told = h.counted.told;
  past_is = ap (λ (q : List Step). s ∷ q) h.counted.past_is;
  depth_is = h.counted.depth_is;
  keys_are = ap (λ (y : HandlerPhase). with_key y (shown_key o.start.depth (functions o.start.pc s.before past)) (keys o.start past)) m ∙ keys_more o past s t h e;
  lines_are = h.counted.lines_are;
  handlers_are = h.counted.handlers_are ∙ sym (ap (λ (y : HandlerPhase). with_handler y (handlers h.counted.later)) m);
  steps_are = more_steps t.steps (length h.counted.later) h.counted.steps_are;
}

pub counted_nested : (o : Origin) (past : List Step) (s : Step) (t : Tally) → IsTally o past t → s.phase ≡ Nested → s.before ≡ frames_standing past → AreCounted o (s ∷ past) (record t { row = t.row + 1; steps = t.steps + 1 })
counted_nested o past s t h m e = record {
  later = s ∷ h.counted.later;
  told = h.counted.told;
  past_is = ap (λ (q : List Step). s ∷ q) h.counted.past_is;
  depth_is = h.counted.depth_is;
  keys_are = ap (λ (y : HandlerPhase). with_key y (shown_key o.start.depth (functions o.start.pc s.before past)) (keys o.start past)) m ∙ keys_more o past s t h e;
  lines_are = h.counted.lines_are;
  handlers_are = h.counted.handlers_are ∙ sym (ap (λ (y : HandlerPhase). with_handler y (handlers h.counted.later)) m);
  steps_are = more_steps t.steps (length h.counted.later) h.counted.steps_are;
}

pub counted_handler : (o : Origin) (past : List Step) (s : Step) (t : Tally) → IsTally o past t → s.phase ≡ InHandler → AreCounted o (s ∷ past) (record t { handlers = t.handlers + 1; steps = t.steps + 1 })
counted_handler o past s t h m = record {
  later = s ∷ h.counted.later;
  told = h.counted.told;
  past_is = ap (λ (q : List Step). s ∷ q) h.counted.past_is;
  depth_is = h.counted.depth_is;
  keys_are = ap (λ (y : HandlerPhase). with_key y (shown_key o.start.depth (functions o.start.pc s.before past)) (keys o.start past)) m ∙ h.counted.keys_are;
  lines_are = h.counted.lines_are;
  handlers_are = more_steps t.handlers (handlers h.counted.later) h.counted.handlers_are ∙ sym (ap (λ (y : HandlerPhase). with_handler y (handlers h.counted.later)) m);
  steps_are = more_steps t.steps (length h.counted.later) h.counted.steps_are;
}

-- ---- the steps in a row go to those of their key
from_one : (r : ℕ) → 0 < r → suc (r - 1) ≡ r
from_one r h = omega (arith, h)

pub counted_flushed : (o : Origin) (past : List Step) (t new : Tally) → AreCounted o past t → 0 < t.row → new.row ≡ 0 → new.functions ≡ t.functions → new.handlers ≡ t.handlers → new.steps ≡ t.steps → new.depth ≡ t.depth
    → map line_of_entry new.counts.entries ≡ puts (shown_key o.start.depth t.functions.items) (count_in (shown_key o.start.depth t.functions.items) (map line_of_entry t.counts.entries) + t.row) (map line_of_entry t.counts.entries)
    → AreCounted o past new
counted_flushed o past t new h some none f a b d put =
    let k = shown_key o.start.depth t.functions.items in
    let row : suc (t.row - 1) ≡ t.row = from_one t.row some in
    let before = keys o.start o.first in
    record {
      later = h.later;
      told = replicate t.row k ++ h.told;
      past_is = h.past_is;
      depth_is = d ∙ h.depth_is;
      keys_are = h.keys_are
          ∙ (sym (append_assoc (replicate t.row k) h.told before) ∙ sym (ap (λ (n : ℕ). replicate n (shown_key o.start.depth new.functions.items) ++ ((replicate t.row k ++ h.told) ++ before)) none));
      lines_are = put
          ∙ (ap (λ (ls : List ProfileLine). puts k (count_in k ls + t.row) ls) h.lines_are
          ∙ (ap (λ (n : ℕ). puts k (count_in k (lines h.told) + n) (lines h.told)) (sym row)
          ∙ (sym (row_puts (t.row - 1) k h.told) ∙ ap (λ (n : ℕ). lines (replicate n k ++ h.told)) row)));
      handlers_are = a ∙ h.handlers_are;
      steps_are = b ∙ h.steps_are;
    }

-- with no steps in a row the functions may be others
pub counted_moved : (o : Origin) (past : List Step) (t new : Tally) → AreCounted o past t → t.row ≡ 0 → new.row ≡ 0 → new.counts.entries ≡ t.counts.entries → new.handlers ≡ t.handlers → new.steps ≡ t.steps → new.depth ≡ t.depth → AreCounted o past new
counted_moved o past t new h none other e a b d = record {
  later = h.later;
  told = h.told;
  past_is = h.past_is;
  depth_is = d ∙ h.depth_is;
  keys_are = h.keys_are
      ∙ (ap (λ (n : ℕ). replicate n (shown_key o.start.depth t.functions.items) ++ (h.told ++ keys o.start o.first)) none
      ∙ sym (ap (λ (n : ℕ). replicate n (shown_key o.start.depth new.functions.items) ++ (h.told ++ keys o.start o.first)) other));
  lines_are = ap (map line_of_entry) e ∙ h.lines_are;
  handlers_are = a ∙ h.handlers_are;
  steps_are = b ∙ h.steps_are;
}

-- ---- entries as lines
abbrev Entry : Type 0
Entry = Vec ℕ Global × ℕ

abbrev by_items : Vec ℕ Global → Vec ℕ Global → Ordering
by_items x y = slice_cmp nat_cmp x.items y.items

reads_case : (k : Vec ℕ Global) (v : ℕ) (e : Entry) (es : List Entry) → map line_of_entry (insert_entry by_items es k v) ≡ puts k.items v (map line_of_entry es) → (o : Ordering)
    → map line_of_entry (match_ordering o ((k, v) ∷ e ∷ es) ((e.0, v) ∷ es) (e ∷ insert_entry by_items es k v)) ≡ match_ordering o (line_of_entry (k, v) ∷ map line_of_entry (e ∷ es)) (line_of_entry (e.0, v) ∷ map line_of_entry es) (line_of_entry e ∷ puts k.items v (map line_of_entry es))
reads_case k v e es r Less = refl
reads_case k v e es r Equal = refl
reads_case k v e es r Greater = ap (λ (ls : List ProfileLine). line_of_entry e ∷ ls) r

pub reads_insert : (k : Vec ℕ Global) (v : ℕ) (es : List Entry) → map line_of_entry (insert_entry by_items es k v) ≡ puts k.items v (map line_of_entry es)
reads_insert k v [] = refl
reads_insert k v (e ∷ es) = reads_case k v e es (reads_insert k v es) (compare k.items e.0.items)

-- the count that a look-up finds
abbrev or_none : Option ℕ → ℕ
or_none None = 0
or_none (Some n) = n

found_case : (b : Bool) (v n : ℕ) (o : Option ℕ) → or_none o ≡ n → or_none (if b then Some v else o) ≡ (if b then v else n)
found_case true v n o e = refl
found_case false v n o e = e

reads_found : (k : List ℕ) (es : List Entry) → or_none (lookup (λ (x : Vec ℕ Global). is_eq (slice_cmp nat_cmp k x.items)) es) ≡ count_in k (map line_of_entry es)
reads_found k [] = refl
reads_found k (e ∷ es) = found_case (is_same k e.0.items) e.1 (count_in k (map line_of_entry es)) (lookup (λ (x : Vec ℕ Global). is_eq (slice_cmp nat_cmp k x.items)) es) (reads_found k es)

pub found_some : (k : List ℕ) (es : List Entry) (n : ℕ) → Some n ≡ lookup (λ (x : Vec ℕ Global). is_eq (slice_cmp nat_cmp k x.items)) es → n ≡ count_in k (map line_of_entry es)
found_some k es n e = ap or_none e ∙ reads_found k es

pub found_none : (k : List ℕ) (es : List Entry) → None ≡ lookup (λ (x : Vec ℕ Global). is_eq (slice_cmp nat_cmp k x.items)) es → 0 ≡ count_in k (map line_of_entry es)
found_none k es e = ap or_none e ∙ reads_found k es

-- ---- a step
same_depth : (a n l : ℕ) → a + 1 ≡ l → l ≡ n + 1 → a ≡ n
same_depth a n l e f = omega (arith, e, f)

-- the functions stay as they are
pub tally_same : (o : Origin) (past : List Step) (s : Step) (t new : Tally) → IsTally o past t → s.before ≡ frames_standing past → new.functions ≡ t.functions → s.after + 1 ≡ length t.functions.items → AreCounted o (s ∷ past) new → IsTally o (s ∷ past) new
tally_same o past s t new h e f len counted =
    let items : t.functions.items ≡ functions o.start.pc s.before past = h.functions_are ∙ ap (λ (n : ℕ). functions o.start.pc n past) (sym e) in
    let depth : s.after ≡ s.before = same_depth s.after s.before (length t.functions.items) len (ap (λ (xs : List ℕ). length xs) items ∙ functions_length o.start.pc s.before past) in
    record {
      functions_are = ap (λ (v : Vec ℕ Global). v.items) f ∙ (items ∙ functions_same o.start.pc s past depth);
      counted = counted;
    }

-- and here they change
pub tally_changed : (o : Origin) (past : List Step) (s : Step) (t new : Tally) (items : List ℕ) → IsTally o past t → s.before ≡ frames_standing past → items ≡ t.functions.items
    → new.functions.items ≡ take (s.after + 1) items ++ replicate (s.after + 1 - length items) s.pc → AreCounted o (s ∷ past) new → IsTally o (s ∷ past) new
tally_changed o past s t new items h e is resized counted =
    let all : items ≡ functions o.start.pc s.before past = is ∙ (h.functions_are ∙ ap (λ (n : ℕ). functions o.start.pc n past) (sym e)) in
    record {
      functions_are = resized ∙ (ap (λ (xs : List ℕ). take (s.after + 1) xs ++ replicate (s.after + 1 - length xs) s.pc) all ∙ functions_past o.start.pc s past);
      counted = counted;
    }

long_enough : (l n a : ℕ) → l ≡ n + 1 → a ≡ n + 1 → l ≤ a + 1
long_enough l n a e f = omega (arith, e, f)

one_is : (l n a : ℕ) → l ≡ n + 1 → a ≡ n + 1 → a + 1 - l ≡ 1
one_is l n a e f = omega (arith, e, f)

none_is : (l n a : ℕ) → l ≡ n + 1 → n ≡ a + 1 → a + 1 - l ≡ 0
none_is l n a e f = omega (arith, e, f)

kept_is : (k l n a : ℕ) → k ≡ l - 1 → l ≡ n + 1 → a ≡ n - 1 → 1 < l → k ≡ a + 1
kept_is k l n a e f g h = omega (arith, e, f, g, h)

more_before : (l n a : ℕ) → l ≡ n + 1 → a ≡ n - 1 → 1 < l → n ≡ a + 1
more_before l n a e f h = omega (arith, e, f, h)

none_left : (l n a : ℕ) → l ≡ n + 1 → a ≡ n - 1 → l ≤ 1 → a ≡ n
none_left l n a e f h = omega (arith, e, f, h)

-- the functions where one is called, and where the last one returns
pub call_is : (opening : ℕ) (s : Step) (past : List Step) → s.after ≡ s.before + 1 → functions opening s.before past ++ s.pc ∷ [] ≡ functions opening s.after (s ∷ past)
call_is opening s past e =
    let all = functions opening s.before past in
    let len = functions_length opening s.before past in
    ap₂ (λ (xs : List ℕ) (k : ℕ). xs ++ replicate k s.pc) (sym (take_all (s.after + 1) all (long_enough (length all) s.before s.after len e))) (sym (one_is (length all) s.before s.after len e)) ∙ functions_past opening s past

pub return_is : (opening : ℕ) (s : Step) (past : List Step) → s.before ≡ s.after + 1 → take (s.after + 1) (functions opening s.before past) ≡ functions opening s.after (s ∷ past)
return_is opening s past e =
    let all = functions opening s.before past in
    let kept = take (s.after + 1) all in
    sym (append-nil kept) ∙ (ap (λ (k : ℕ). kept ++ replicate k s.pc) (sym (none_is (length all) s.before s.after (functions_length opening s.before past) e)) ∙ functions_past opening s past)

pub tally_called : (o : Origin) (past : List Step) (s : Step) (t new : Tally) → IsTally o past t → s.before ≡ frames_standing past → s.after ≡ s.before + 1 → new.functions.items ≡ t.functions.items ++ s.pc ∷ [] → AreCounted o (s ∷ past) new → IsTally o (s ∷ past) new
tally_called o past s t new h e up pushed counted = record {
  functions_are = pushed
      ∙ (ap (λ (xs : List ℕ). xs ++ s.pc ∷ []) (h.functions_are ∙ ap (λ (n : ℕ). functions o.start.pc n past) (sym e)) ∙ call_is o.start.pc s past up);
  counted = counted;
}

pub tally_returned : (o : Origin) (past : List Step) (s : Step) (t new : Tally) (n : ℕ) → IsTally o past t → s.before ≡ frames_standing past → s.after ≡ s.before - 1 → 1 < length t.functions.items → n ≡ length t.functions.items - 1 → new.functions.items ≡ take n t.functions.items → AreCounted o (s ∷ past) new
    → IsTally o (s ∷ past) new
tally_returned o past s t new n h e down many n_is cut counted =
    let items : t.functions.items ≡ functions o.start.pc s.before past = h.functions_are ∙ ap (λ (m : ℕ). functions o.start.pc m past) (sym e) in
    let len : length t.functions.items ≡ s.before + 1 = ap (λ (xs : List ℕ). length xs) items ∙ functions_length o.start.pc s.before past in
    record {
      functions_are = cut
          ∙ (ap₂ (λ (m : ℕ) (xs : List ℕ). take m xs) (kept_is n (length t.functions.items) s.before s.after n_is len down many) items
          ∙ return_is o.start.pc s past (more_before (length t.functions.items) s.before s.after len down many));
      counted = counted;
    }

-- the opening function alone stands
pub tally_stays : (o : Origin) (past : List Step) (s : Step) (t new : Tally) → IsTally o past t → s.before ≡ frames_standing past → s.after ≡ s.before - 1 → length t.functions.items ≤ 1 → new.functions.items ≡ t.functions.items → AreCounted o (s ∷ past) new → IsTally o (s ∷ past) new
tally_stays o past s t new h e down few same counted =
    let items : t.functions.items ≡ functions o.start.pc s.before past = h.functions_are ∙ ap (λ (m : ℕ). functions o.start.pc m past) (sym e) in
    let len : length t.functions.items ≡ s.before + 1 = ap (λ (xs : List ℕ). length xs) items ∙ functions_length o.start.pc s.before past in
    record {
      functions_are = same ∙ (items ∙ functions_same o.start.pc s past (none_left (length t.functions.items) s.before s.after len down few));
      counted = counted;
    }

pub tally_kept : (o : Origin) (past : List Step) (s : Step) (t new : Tally) → IsTally o past t → s.before ≡ frames_standing past → s.after ≡ s.before → new.functions.items ≡ t.functions.items → AreCounted o (s ∷ past) new → IsTally o (s ∷ past) new
tally_kept o past s t new h e level same counted = record {
  functions_are = same ∙ (h.functions_are ∙ (ap (λ (n : ℕ). functions o.start.pc n past) (sym e) ∙ functions_same o.start.pc s past level));
  counted = counted;
}

-- ---- at the end
lengths_less : (a b c : ℕ) → c ≡ a + b → c - b ≡ a
lengths_less a b c e = omega (arith, e)

itself : (n : ℕ) → n ≤ n
itself n = omega arith

-- what stands in front of the last ones
pub front_is : {A : Type 0} (xs last all : List A) → all ≡ xs ++ last → in_front all last ≡ xs
front_is {A = A} xs last all e =
    let len : length all - length last ≡ length xs = lengths_less (length xs) (length last) (length all) (ap (λ (l : List A). length l) e ∙ length-append xs last) in
    ap₂ (λ (n : ℕ) (l : List A). take n l) len e ∙ (take-append-le (length xs) xs last (itself (length xs)) ∙ take_all (length xs) xs (itself (length xs)))

abbrev pub turns : List ProfileLine → ℕ → CoreTurns
turns ls h = record { lines = ls; handlers = h }

pub turns_are : (o : Origin) (past : List Step) (t : Tally) → AreCounted o past t → t.row ≡ 0 → (ls : List ProfileLine) → ls ≡ map line_of_entry t.counts.entries → turns ls t.handlers ≡ turns_past o.start o.first past
turns_are o past t h none ls is =
    let before = keys o.start o.first in
    let all : keys o.start past ≡ h.told ++ before = h.keys_are ∙ ap (λ (n : ℕ). replicate n (shown_key o.start.depth t.functions.items) ++ (h.told ++ before)) none in
    ap₂ (λ (x : List ProfileLine) (n : ℕ). turns x n) (is ∙ (h.lines_are ∙ ap lines (sym (front_is h.told before (keys o.start past) all)))) (h.handlers_are ∙ ap handlers (sym (front_is h.later o.first past h.past_is)))

-- as a core opens
pub opens : (pc d : ℕ) (t : Tally) → t.functions.items ≡ pc ∷ [] → t.depth ≡ d → t.counts.entries ≡ [] → t.row ≡ 0 → t.handlers ≡ 0 → t.steps ≡ 0 → IsTally (origin pc d []) [] t
opens pc d t items depth none row handlers steps = record {
  functions_are = items;
  counted = record {
    later = [];
    told = [];
    past_is = refl;
    depth_is = depth;
    keys_are = sym (ap (λ (n : ℕ). replicate n (shown_key d t.functions.items) ++ ([] ++ [])) row);
    lines_are = ap (map line_of_entry) none;
    handlers_are = handlers;
    steps_are = steps;
  };
}

-- a tally of the steps from here on
pub begun : (o : Origin) (past : List Step) (t new : Tally) → IsTally o past t → new.functions ≡ t.functions → new.depth ≡ t.depth → new.row ≡ 0 → new.handlers ≡ 0 → new.steps ≡ 0 → new.counts.entries ≡ [] → IsTally (from_here o past) past new
begun o past t new h f d row handlers steps none = record {
  functions_are = ap (λ (v : Vec ℕ Global). v.items) f ∙ h.functions_are;
  counted = record {
    later = [];
    told = [];
    past_is = refl;
    depth_is = d ∙ h.counted.depth_is;
    keys_are = sym (ap (λ (n : ℕ). replicate n (shown_key o.start.depth new.functions.items) ++ keys o.start past) row);
    lines_are = ap (map line_of_entry) none;
    handlers_are = handlers;
    steps_are = steps;
  };
}

-- a list that was cut or filled up
pub resized_is : (n x : ℕ) (old new : List ℕ) (len : ℕ) → len ≡ length old → new ≡ take n old ++ replicate (n - len) x → new ≡ take n old ++ replicate (n - length old) x
resized_is n x old new len e h = h ∙ ap (λ (m : ℕ). take n old ++ replicate (n - m) x) e
