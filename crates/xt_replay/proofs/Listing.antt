-- The schedule of what is left of a run: its first number, and what is left after it.
use Rattle.std.proofs.Common.{◌≡◌, ℕ, zero, suc, ◌+◌, ◌-◌, ◌<◌, ◌≤◌, Bool, if◌then◌else◌, Option, Some, None, List, [], ◌∷◌, ◌++◌, length, replicate, refl, sym, ap, ◌∙◌, subst, arith}
use Rattle.std.proofs.lemmas.Bool.{lt-ltb, le-ltb}
use Rattle.xt_map.specs.declared.access.Access.{Access}
use Rattle.xt_map.specs.declared.access.Entry.{Entry}
use Rattle.xt_map.specs.History.{IsOfCores, calls_of}
use Rattle.xt_trace.specs.declared.record.StepRecord.{StepRecord}
use Rattle.xt_trace.specs.Calls.{call_before, calls_in}
use Rattle.xt_trace.specs.Schedule.{cores_of, place_before, places_from, schedule_from}
use Rattle.xt_trace.specs.Worlds.{entry}
use Rattle.xt_replay.specs.Stands.{next_of}

-- the schedule of these entries and records, where core 0 has made i steps and core 1 has made j
abbrev pub listed : List Entry → ℕ → List StepRecord → ℕ → List StepRecord → List ℕ
listed es i xs j ys = schedule_from (cores_of es) i (places_from i xs) (i + length xs) j (places_from j ys) (j + length ys)

-- the entries after a turn that may ask
abbrev pub past : Option Access → List Entry → List Entry
past None es = es
past (Some a) [] = []
past (Some a) (e ∷ es) = es

-- the entries are the calls of the records
pub record Ahead (es : List Entry) (xs ys : List StepRecord) : Type 0 where
  pub cores : IsOfCores es
  pub calls0 : calls_of 0 es ≡ calls_in xs
  pub calls1 : calls_of 1 es ≡ calls_in ys

pub record Zero (es : List Entry) (i : ℕ) (xs : List StepRecord) (j : ℕ) (ys : List StepRecord) : Type 0 where
  pub first : StepRecord
  pub rest : List StepRecord
  pub splits : xs ≡ first ∷ rest
  pub list : listed es i xs j ys ≡ 0 ∷ listed (past first.access es) (suc i) rest j ys
  pub ahead : Ahead (past first.access es) rest ys
  pub next : next_of es i (i + length xs) ≡ 0

pub record One (es : List Entry) (i : ℕ) (xs : List StepRecord) (j : ℕ) (ys : List StepRecord) : Type 0 where
  pub first : StepRecord
  pub rest : List StepRecord
  pub splits : ys ≡ first ∷ rest
  pub list : listed es i xs j ys ≡ 1 ∷ listed (past first.access es) i xs (suc j) rest
  pub ahead : Ahead (past first.access es) xs rest
  pub next : next_of es i (i + length xs) ≡ 1

pub record Over (es : List Entry) (i : ℕ) (xs : List StepRecord) (j : ℕ) (ys : List StepRecord) : Type 0 where
  pub xs_is : xs ≡ []
  pub ys_is : ys ≡ []
  pub list : listed es i xs j ys ≡ []

pub data Split (es : List Entry) (i : ℕ) (xs : List StepRecord) (j : ℕ) (ys : List StepRecord) : Type 0 where
  step0 : Zero es i xs j ys → Split es i xs j ys
  step1 : One es i xs j ys → Split es i xs j ys
  ended : Over es i xs j ys → Split es i xs j ys

-- the places of records with a call begin at or after the number of the first record
record First (k : ℕ) (xs : List StepRecord) : Type 0 where
  place : ℕ
  rest : List ℕ
  is : places_from k xs ≡ place ∷ rest
  later : k ≤ place

first_place : (k : ℕ) (xs : List StepRecord) (c : Access × ℕ) (cs : List (Access × ℕ)) → calls_in xs ≡ c ∷ cs → First k xs
first_place k [] c cs e = absurd cc
first_place k (x ∷ xs) c cs e =
    elim x.access as (λ d. x.access ≡ d → First k (x ∷ xs)) [
      | None ↦ λ q.
          let h = first_place (suc k) xs c cs (ap (λ (d : Option Access). call_before d x.reply (calls_in xs)) (sym q) ∙ e) in
          record {
            place = h.place;
            rest = h.rest;
            is = ap (λ (d : Option Access). place_before d k (places_from (suc k) xs)) q ∙ h.is;
            later = omega (arith, h.later);
          }
      | Some a ↦ λ q. record {
        place = k;
        rest = places_from (suc k) xs;
        is = ap (λ (d : Option Access). place_before d k (places_from (suc k) xs)) q;
        later = omega arith;
      }
    ] refl

record Quiet (x : StepRecord) (xs : List StepRecord) : Type 0 where
  none : x.access ≡ None
  rest : calls_in xs ≡ []

quiet_call : (d : Option Access) (reply : ℕ) (cs : List (Access × ℕ)) → [] ≡ call_before d reply cs → (d ≡ None) × (cs ≡ [])
quiet_call None reply cs e = (refl, sym e)
quiet_call (Some a) reply cs e = absurd cc

quiet : (x : StepRecord) (xs : List StepRecord) → [] ≡ calls_in (x ∷ xs) → Quiet x xs
quiet x xs e = let h = quiet_call x.access x.reply (calls_in xs) e in record { none = h.0; rest = h.1 }

tail_calls : (x y : Access × ℕ) (xs ys : List (Access × ℕ)) → x ∷ xs ≡ y ∷ ys → xs ≡ ys
tail_calls x y xs ys e = cc

-- ---- no entry is left

none_zero : (i : ℕ) (x : StepRecord) (rest : List StepRecord) (j : ℕ) (ys : List StepRecord) → Ahead [] (x ∷ rest) ys → Zero [] i (x ∷ rest) j ys
none_zero i x rest j ys h =
    let q = quiet x rest h.calls0 in
    let F : Option Access → Type 0 = λ d. Ahead (past d []) rest ys in
    record {
      first = x;
      rest = rest;
      splits = refl;
      list = ap (λ (k : ℕ). replicate k 0 ++ replicate ((j + length ys) - j) 1) (let e : (i + suc (length rest)) - i ≡ suc ((suc i + length rest) - suc i) = omega arith in e)
          ∙ ap (λ (d : Option Access). 0 ∷ listed (past d []) (suc i) rest j ys) (sym q.none);
      ahead = subst F (sym q.none) (record { cores = h.cores; calls0 = sym q.rest; calls1 = h.calls1 });
      next = ap (λ (b : Bool). if b then 0 else 1) (lt-ltb i (i + suc (length rest)) (omega arith));
    }

none_one : (i j : ℕ) (y : StepRecord) (rest : List StepRecord) → Ahead [] [] (y ∷ rest) → One [] i [] j (y ∷ rest)
none_one i j y rest h =
    let q = quiet y rest h.calls1 in
    let zero_left : (i + 0) - i ≡ 0 = omega arith in
    let F : Option Access → Type 0 = λ d. Ahead (past d []) [] rest in
    record {
      first = y;
      rest = rest;
      splits = refl;
      list = ap (λ (k : ℕ). replicate k 0 ++ replicate ((j + suc (length rest)) - j) 1) zero_left
          ∙ ap (λ (k : ℕ). replicate k 1) (let e : (j + suc (length rest)) - j ≡ suc ((suc j + length rest) - suc j) = omega arith in e)
          ∙ ap (λ (k : ℕ). 1 ∷ (replicate k 0 ++ replicate ((suc j + length rest) - suc j) 1)) (sym zero_left)
          ∙ ap (λ (d : Option Access). 1 ∷ listed (past d []) i [] (suc j) rest) (sym q.none);
      ahead = subst F (sym q.none) (record { cores = h.cores; calls0 = h.calls0; calls1 = sym q.rest });
      next = ap (λ (b : Bool). if b then 0 else 1) (le-ltb i (i + 0) (omega arith));
    }

none_left : (i : ℕ) (xs : List StepRecord) (j : ℕ) (ys : List StepRecord) → Ahead [] xs ys → Split [] i xs j ys
none_left i (x ∷ rest) j ys h = step0 (none_zero i x rest j ys h)
none_left i [] j (y ∷ rest) h = step1 (none_one i j y rest h)
none_left i [] j [] h = ended (record {
  xs_is = refl;
  ys_is = refl;
  list = ap (λ (k : ℕ). replicate k 0 ++ replicate ((j + 0) - j) 1) (let e : (i + 0) - i ≡ 0 = omega arith in e)
      ∙ ap (λ (k : ℕ). replicate k 1) (let e : (j + 0) - j ≡ 0 = omega arith in e);
})

-- ---- an entry of core 0

own_zero : (a : Access) (r : ℕ) (es : List Entry) (i : ℕ) (x : StepRecord) (rest : List StepRecord) (j : ℕ) (ys : List StepRecord)
    → Ahead (entry 0 a r ∷ es) (x ∷ rest) ys → Zero (entry 0 a r ∷ es) i (x ∷ rest) j ys
own_zero a r es i x rest j ys h =
    let cs = cores_of es in
    let qs = places_from j ys in
    let m = j + length ys in
    let n = i + suc (length rest) in
    let n_is : n ≡ suc i + length rest = omega arith in
    let G : Option Access → Type 0 = λ d. Ahead (past d (entry 0 a r ∷ es)) rest ys in
    elim x.access as (λ d. x.access ≡ d → Zero (entry 0 a r ∷ es) i (x ∷ rest) j ys) [
      | None ↦ λ q.
          let calls : calls_of 0 (entry 0 a r ∷ es) ≡ calls_in rest = h.calls0 ∙ ap (λ (d : Option Access). call_before d x.reply (calls_in rest)) q in
          let f = first_place (suc i) rest (a, r) (calls_of 0 es) (sym calls) in
          record {
            first = x;
            rest = rest;
            splits = refl;
            list = ap (λ (ps : List ℕ). schedule_from (0 ∷ cs) i ps n j qs m) (ap (λ (d : Option Access). place_before d i (places_from (suc i) rest)) q ∙ f.is)
                ∙ ap (λ (k : ℕ). replicate k 0 ++ schedule_from cs (suc f.place) f.rest n j qs m) (let e : suc f.place - i ≡ suc (suc f.place - suc i) = omega (arith, f.later) in e)
                ∙ ap (λ (k : ℕ). 0 ∷ schedule_from (0 ∷ cs) (suc i) (f.place ∷ f.rest) k j qs m) n_is
                ∙ ap (λ (ps : List ℕ). 0 ∷ schedule_from (0 ∷ cs) (suc i) ps (suc i + length rest) j qs m) (sym f.is)
                ∙ ap (λ (d : Option Access). 0 ∷ listed (past d (entry 0 a r ∷ es)) (suc i) rest j ys) (sym q);
            ahead = subst G (sym q) (record { cores = h.cores; calls0 = calls; calls1 = h.calls1 });
            next = refl;
          }
      | Some z ↦ λ q. record {
        first = x;
        rest = rest;
        splits = refl;
        list = ap (λ (d : Option Access). schedule_from (0 ∷ cs) i (place_before d i (places_from (suc i) rest)) n j qs m) q
            ∙ ap (λ (k : ℕ). replicate k 0 ++ schedule_from cs (suc i) (places_from (suc i) rest) n j qs m) (let e : suc i - i ≡ 1 = omega arith in e)
            ∙ ap (λ (k : ℕ). 0 ∷ schedule_from cs (suc i) (places_from (suc i) rest) k j qs m) n_is
            ∙ ap (λ (d : Option Access). 0 ∷ listed (past d (entry 0 a r ∷ es)) (suc i) rest j ys) (sym q);
        ahead = subst G (sym q) (record {
          cores = λ k e at. h.cores (suc k) e at;
          calls0 = tail_calls (a, r) (z, x.reply) (calls_of 0 es) (calls_in rest) (h.calls0 ∙ ap (λ (d : Option Access). call_before d x.reply (calls_in rest)) q);
          calls1 = h.calls1;
        });
        next = refl;
      }
    ] refl

-- ---- an entry of core 1

own_one : (a : Access) (r : ℕ) (es : List Entry) (i : ℕ) (xs : List StepRecord) (j : ℕ) (y : StepRecord) (rest : List StepRecord)
    → Ahead (entry 1 a r ∷ es) xs (y ∷ rest) → One (entry 1 a r ∷ es) i xs j (y ∷ rest)
own_one a r es i xs j y rest h =
    let cs = cores_of es in
    let ps = places_from i xs in
    let n = i + length xs in
    let m = j + suc (length rest) in
    let m_is : m ≡ suc j + length rest = omega arith in
    let G : Option Access → Type 0 = λ d. Ahead (past d (entry 1 a r ∷ es)) xs rest in
    elim y.access as (λ d. y.access ≡ d → One (entry 1 a r ∷ es) i xs j (y ∷ rest)) [
      | None ↦ λ q.
          let calls : calls_of 1 (entry 1 a r ∷ es) ≡ calls_in rest = h.calls1 ∙ ap (λ (d : Option Access). call_before d y.reply (calls_in rest)) q in
          let f = first_place (suc j) rest (a, r) (calls_of 1 es) (sym calls) in
          record {
            first = y;
            rest = rest;
            splits = refl;
            list = ap (λ (qs : List ℕ). schedule_from (1 ∷ cs) i ps n j qs m) (ap (λ (d : Option Access). place_before d j (places_from (suc j) rest)) q ∙ f.is)
                ∙ ap (λ (k : ℕ). replicate k 1 ++ schedule_from cs i ps n (suc f.place) f.rest m) (let e : suc f.place - j ≡ suc (suc f.place - suc j) = omega (arith, f.later) in e)
                ∙ ap (λ (k : ℕ). 1 ∷ schedule_from (1 ∷ cs) i ps n (suc j) (f.place ∷ f.rest) k) m_is
                ∙ ap (λ (qs : List ℕ). 1 ∷ schedule_from (1 ∷ cs) i ps n (suc j) qs (suc j + length rest)) (sym f.is)
                ∙ ap (λ (d : Option Access). 1 ∷ listed (past d (entry 1 a r ∷ es)) i xs (suc j) rest) (sym q);
            ahead = subst G (sym q) (record { cores = h.cores; calls0 = h.calls0; calls1 = calls });
            next = refl;
          }
      | Some z ↦ λ q. record {
        first = y;
        rest = rest;
        splits = refl;
        list = ap (λ (d : Option Access). schedule_from (1 ∷ cs) i ps n j (place_before d j (places_from (suc j) rest)) m) q
            ∙ ap (λ (k : ℕ). replicate k 1 ++ schedule_from cs i ps n (suc j) (places_from (suc j) rest) m) (let e : suc j - j ≡ 1 = omega arith in e)
            ∙ ap (λ (k : ℕ). 1 ∷ schedule_from cs i ps n (suc j) (places_from (suc j) rest) k) m_is
            ∙ ap (λ (d : Option Access). 1 ∷ listed (past d (entry 1 a r ∷ es)) i xs (suc j) rest) (sym q);
        ahead = subst G (sym q) (record {
          cores = λ k e at. h.cores (suc k) e at;
          calls0 = h.calls0;
          calls1 = tail_calls (a, r) (z, y.reply) (calls_of 1 es) (calls_in rest) (h.calls1 ∙ ap (λ (d : Option Access). call_before d y.reply (calls_in rest)) q);
        });
        next = refl;
      }
    ] refl

-- ---- both

entry_left : (c : ℕ) (a : Access) (r : ℕ) (es : List Entry) (i : ℕ) (xs : List StepRecord) (j : ℕ) (ys : List StepRecord)
    → c < 2 → Ahead (entry c a r ∷ es) xs ys → Split (entry c a r ∷ es) i xs j ys
entry_left zero a r es i [] j ys lt h = absurd (let e : (a, r) ∷ calls_of 0 es ≡ [] = h.calls0 in cc)
entry_left zero a r es i (x ∷ rest) j ys lt h = step0 (own_zero a r es i x rest j ys h)
entry_left (suc zero) a r es i xs j [] lt h = absurd (let e : (a, r) ∷ calls_of 1 es ≡ [] = h.calls1 in cc)
entry_left (suc zero) a r es i xs j (y ∷ rest) lt h = step1 (own_one a r es i xs j y rest h)
entry_left (suc (suc c)) a r es i xs j ys lt h = absurd (omega arith)

pub split : (es : List Entry) (i : ℕ) (xs : List StepRecord) (j : ℕ) (ys : List StepRecord) → Ahead es xs ys → Split es i xs j ys
split [] i xs j ys h = none_left i xs j ys h
split (e ∷ es) i xs j ys h = entry_left e.core e.access e.reply es i xs j ys (h.cores 0 e refl) h
