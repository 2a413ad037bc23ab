-- What several writes come to, one after another.
use Rattle.std.proofs.Common.{◌≡◌, ℕ, ◌≤◌, arith, List, [], ◌++◌, Option, Result, Ok, Err, IsErrOf, refl, ap, sym, ◌∙◌, subst, append_assoc, append-nil, rules}
use Rattle.std.specs.Io.KnownBytes.{Appends}
use Rattle.std.proofs.KnownBytes.{Appends-nil, Appends-trans}
use Rattle.xt_io.specs.Causes.{Rose}
use Rattle.xt_io.specs.Whole.{AppendsPrefix}
use Rattle.xt_io.specs.declared.sink.Refused.{Refused}
use Rattle.xt_io.specs.declared.sink.Refused.TheVariants as refusal
use Rattle.xt_report.specs.Writes.{Writes}

-- a prefix of what follows, after what was written whole
prefix_after : (a b c : Option (List ℕ)) (done piece rest whole : List ℕ) → Appends a b done → AppendsPrefix b c piece
    → whole ≡ done ++ (piece ++ rest) → AppendsPrefix a c whole
prefix_after a b c done piece rest whole appended (front, left, split, more) is = (
  done ++ front,
  left ++ rest,
  is ∙ ap (λ l. done ++ (l ++ rest)) split ∙ ap (λ l. done ++ l) (append_assoc front left rest) ∙ sym (append_assoc done front (left ++ rest)),
  Appends-trans a b c done front appended more,
)

-- a count that has risen since it was higher has risen
rose_since : (a b c : ℕ) → a ≤ b → Rose b c → Rose a c
rose_since a b c low rose = grind (arith)

-- ---- writes

pub was_appended : {T : Type 0} (r : Result T Refused) (v : T) (a b : Option (List ℕ)) (f g : ℕ) (bytes : List ℕ) → r ≡ Ok v → Writes r a b f g bytes → Appends a b bytes
was_appended (Ok v) w a b f g bytes is writes = writes.ok
was_appended (Err e) w a b f g bytes is writes = absurd (cc)

-- a refusal is the same whatever would have been answered
same_refusal : {T U : Type 0} (e f : Refused) → IsErrOf {T = T} (Err e) f → IsErrOf {T = U} (Err e) f
same_refusal e f is = search (rules, is)

-- a refusal of a piece is one of the whole
refused : {T U : Type 0} (e : Refused) (a b c : Option (List ℕ)) (f g h : ℕ) (done piece rest whole : List ℕ)
    → Writes {T = U} (Err e) b c g h piece → Appends a b done → f ≤ g → whole ≡ done ++ (piece ++ rest) → Writes {T = T} (Err e) a c f h whole
refused {T} {U} e a b c f g h done piece rest whole writes appended low is = record {
  ok = tt;
  err = prefix_after a b c done piece rest whole appended writes.err is;
  later = omega (arith, low, writes.later);
  failed = λ failed. rose_since f g h low (writes.failed (same_refusal {T = T} {U = U} e _ failed));
}

pub refused_there : {T U : Type 0} (r : Result U Refused) (s : Result T Refused) (e : Refused) (a b c : Option (List ℕ)) (f g h : ℕ) (done piece rest whole : List ℕ)
    → r ≡ Err e → s ≡ Err e → Writes r b c g h piece → Appends a b done → f ≤ g → whole ≡ done ++ (piece ++ rest) → Writes s a c f h whole
refused_there {T} {U} r s e a b c f g h done piece rest whole is same writes appended low split =
    let P : Result T Refused → Type 0 = λ x. Writes x a c f h whole in
    let Q : Result U Refused → Type 0 = λ x. Writes x b c g h piece in
    subst P (sym same) (refused e a b c f g h done piece rest whole (subst Q is writes) appended low split)

-- a piece refused, of which more was to follow
pub refused_early : {T U : Type 0} (r : Result U Refused) (s : Result T Refused) (e : Refused) (a b : Option (List ℕ)) (f g : ℕ) (piece rest : List ℕ)
    → r ≡ Err e → s ≡ Err e → Writes r a b f g piece → Writes s a b f g (piece ++ rest)
refused_early r s e a b f g piece rest is same writes =
    refused_there r s e a a b f f g [] piece rest (piece ++ rest) is same writes (Appends-nil a) (omega arith) refl

-- a piece after what was written whole
pub written_after : {T : Type 0} (r : Result T Refused) (a b c : Option (List ℕ)) (f g h : ℕ) (done piece : List ℕ)
    → Appends a b done → f ≤ g → Writes r b c g h piece → Writes r a c f h (done ++ piece)
written_after (Ok v) a b c f g h done piece appended low writes = record {
  ok = Appends-trans a b c done piece appended writes.ok;
  err = tt;
  later = omega (arith, low, writes.later);
  failed = λ failed. rose_since f g h low (writes.failed failed);
}
written_after (Err e) a b c f g h done piece appended low writes =
    refused e a b c f g h done piece [] (done ++ piece) writes appended low (ap (λ l. done ++ l) (sym (append-nil piece)))

-- memory ran out, after what was written
pub wanting : {T : Type 0} (s : Result T Refused) (a b : Option (List ℕ)) (f g : ℕ) (done rest whole : List ℕ) → s ≡ Err refusal.Memory → Appends a b done → f ≤ g
    → whole ≡ done ++ rest → Writes s a b f g whole
wanting {T} s a b f g done rest whole is appended low split =
    let P : Result T Refused → Type 0 = λ x. Writes x a b f g whole in
    subst P (sym is) (record {
      ok = tt;
      err = (done, rest, split, appended);
      later = low;
      failed = λ failed. absurd (let e : ◌≡◌ {A = Result T Refused} (Err refusal.Memory) (Err refusal.Failed) = failed in cc);
    })

-- what was refused was written in front
pub prefix_of : {T : Type 0} (r : Result T Refused) (e : Refused) (a b : Option (List ℕ)) (f g : ℕ) (bytes : List ℕ)
    → r ≡ Err e → Writes r a b f g bytes → AppendsPrefix a b bytes
prefix_of (Ok v) e a b f g bytes is writes = absurd (cc)
prefix_of (Err x) e a b f g bytes is writes = writes.err
