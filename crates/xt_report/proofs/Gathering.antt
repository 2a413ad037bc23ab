-- What gathering texts comes to, one after another.
use Rattle.std.proofs.Common.{◌≡◌, ℕ, ◌≤◌, arith, List, [], ◌++◌, Option, Result, Ok, Err, OnOk, IfErr, refl, ap, sym, ◌∙◌, subst, append_assoc, append-nil}
use Rattle.std.specs.Io.KnownBytes.{Appends}
use Rattle.std.proofs.KnownBytes.{Appends-nil, Appends-trans}
use Rattle.xt_io.specs.declared.sink.Refused.{Refused}
use Rattle.xt_io.specs.declared.sink.Refused.TheVariants as refusal
use Rattle.xt_report.specs.Writes.{Writes}
use Rattle.xt_report.specs.Pieces.{Gathers}
use Rattle.xt_report.proofs.Writing.{refused_there, wanting, written_after}

-- a refusal after which what was gathered does not matter
as_writes : {T : Type 0} (r : Result T Refused) (e : Refused) (a b : Option (List ℕ)) (f g : ℕ) (before after bytes : List ℕ)
    → r ≡ Err e → Gathers r a b f g before after bytes → Writes r a b f g (before ++ bytes)
as_writes (Ok v) e a b f g before after bytes is gathers = absurd (cc)
as_writes (Err x) e a b f g before after bytes is gathers = record {
  ok = tt;
  err = gathers.err;
  later = gathers.later;
  failed = gathers.failed;
}

pub as_gathers : {T : Type 0} (r : Result T Refused) (e : Refused) (a b : Option (List ℕ)) (f g : ℕ) (before after bytes : List ℕ)
    → r ≡ Err e → Writes r a b f g (before ++ bytes) → Gathers r a b f g before after bytes
as_gathers (Ok v) e a b f g before after bytes is writes = absurd (cc)
as_gathers (Err x) e a b f g before after bytes is writes = record {
  ok = tt;
  err = writes.err;
  later = writes.later;
  failed = writes.failed;
}

-- bytes that were kept behind those that were there
pub keeps : {T : Type 0} (r : Result T Refused) (a : Option (List ℕ)) (f : ℕ) (before after bytes : List ℕ)
    → OnOk r (after ≡ before ++ bytes) → IfErr r (λ e. e ≡ refusal.Memory) → Gathers r a a f f before after bytes
keeps (Ok v) a f before after bytes kept wants = record {
  ok = ([], sym kept, Appends-nil a);
  err = tt;
  later = omega arith;
  failed = λ failed. absurd (cc);
}
keeps {T} (Err e) a f before after bytes kept wants =
    let is : ◌≡◌ {A = Result T Refused} (Err e) (Err refusal.Memory) = ap (λ x. Err x) wants in
    as_gathers (Err e) e a a f f before after bytes refl (wanting (Err e) a a f f [] (before ++ bytes) (before ++ bytes) is (Appends-nil a) (omega arith) refl)

-- bytes that were written, where none was gathered
pub writes_all : {T : Type 0} (r : Result T Refused) (a b : Option (List ℕ)) (f g : ℕ) (none bytes : List ℕ) → none ≡ [] → Writes r a b f g bytes
    → Gathers r a b f g none none bytes
writes_all (Ok v) a b f g none bytes empty writes = record {
  ok = (bytes, ap (λ l. l ++ bytes) empty ∙ sym (append-nil bytes) ∙ ap (λ l. bytes ++ l) (sym empty), writes.ok);
  err = tt;
  later = writes.later;
  failed = writes.failed;
}
writes_all {T} (Err e) a b f g none bytes empty writes =
    let P : List ℕ → Type 0 = λ l. Gathers {T = T} (Err e) a b f g l l bytes in
    subst P (sym empty) (as_gathers (Err e) e a b f g [] [] bytes refl writes)

-- after all that was gathered was written
after_all : {T : Type 0} (r : Result T Refused) (a b c : Option (List ℕ)) (f g h : ℕ) (before after bytes : List ℕ)
    → Appends a b before → f ≤ g → Gathers r b c g h [] after bytes → Gathers r a c f h before after bytes
after_all (Ok v) a b c f g h before after bytes appended low gathers =
    let (done, split, more) = gathers.ok in
    record {
      ok = (before ++ done, ap (λ l. before ++ l) split ∙ sym (append_assoc before done after), Appends-trans a b c before done appended more);
      err = tt;
      later = omega (arith, low, gathers.later);
      failed = λ failed. absurd (cc);
    }
after_all (Err e) a b c f g h before after bytes appended low gathers =
    as_gathers (Err e) e a c f h before after bytes refl
    (written_after (Err e) a b c f g h before bytes appended low (as_writes (Err e) e b c g h [] after bytes refl gathers))

pub gathers_after : {T : Type 0} (r : Result T Refused) (a b c : Option (List ℕ)) (f g h : ℕ) (before none after bytes : List ℕ)
    → Appends a b before → f ≤ g → none ≡ [] → Gathers r b c g h none after bytes → Gathers r a c f h before after bytes
gathers_after r a b c f g h before none after bytes appended low empty gathers =
    let P : List ℕ → Type 0 = λ l. Gathers r b c g h l after bytes in
    after_all r a b c f g h before after bytes appended low (subst P empty gathers)

-- ---- for whoever gathers

-- a text refused, of which more was to follow
pub refused_gathering : {T U : Type 0} (r : Result U Refused) (s : Result T Refused) (e : Refused) (a b c : Option (List ℕ)) (f g h : ℕ) (done before after text rest whole : List ℕ)
    → r ≡ Err e → s ≡ Err e → Gathers r b c g h before after text → Appends a b done → f ≤ g → whole ≡ done ++ (before ++ (text ++ rest)) → Writes s a c f h whole
refused_gathering r s e a b c f g h done before after text rest whole is same gathers appended low split =
    refused_there r s e a b c f g h done (before ++ text) rest whole is same (as_writes r e b c g h before after text is gathers) appended low
    (split ∙ ap (λ l. done ++ l) (sym (append_assoc before text rest)))

-- a text gathered, which more follows: what was written, and what is left
pub gathered_on : {T : Type 0} (r : Result T Refused) (v : T) (a b c : Option (List ℕ)) (g h : ℕ) (done before after text rest whole : List ℕ)
    → r ≡ Ok v → Gathers r b c g h before after text → Appends a b done → whole ≡ done ++ (before ++ (text ++ rest))
    → (more : List ℕ) × (whole ≡ more ++ (after ++ rest)) × Appends a c more
gathered_on (Ok v) w a b c g h done before after text rest whole is gathers appended split =
    let (next, parts, more) = gathers.ok in (
      done ++ next,
      split ∙ ap (λ l. done ++ l) (sym (append_assoc before text rest) ∙ ap (λ l. l ++ rest) parts ∙ append_assoc next after rest)
          ∙ sym (append_assoc done next (after ++ rest)),
      Appends-trans a b c done next appended more,
    )
gathered_on (Err e) w a b c g h done before after text rest whole is gathers appended split = absurd (cc)
