-- Carries a proof; nothing that a reader must believe.
-- What the rules of a run say of the ranges of its numbers.
use Rattle.std.proofs.Common.{◌≡◌, ℕ, ◌<◌, ◌≤◌, ◌^◌, ◌&&◌, ◌||◌, Bool, true, false, None, List, [], ◌∷◌, refl, sym, ap, ap₂, ◌∙◌, arith}
use Rattle.std.specs.Prelude.{All}
use Rattle.std.proofs.lemmas.Bool.{and_parts, ltb-false, ltb-true}
use Rattle.std.proofs.lemmas.Bool.Decides.{nat_tests}
use Rattle.std.proofs.lemmas.List.Elements.{All-cons, All-head, All-nil, All-tail}
use Rattle.std.proofs.Math.Dec.{ltb}
use Rattle.xt_map.specs.declared.access.Access.{Access}
use Rattle.xt_map.specs.declared.access.Entry.{Entry}
use Rattle.xt_map.specs.Regions.{is_executable, is_mapped, is_memory, is_uart, kind_fits, is_size, region_of, uart_takes}
use Rattle.xt_trace.specs.declared.options.Options.{Options}
use Rattle.xt_trace.specs.Validity.{IsValid}
use Rattle.xt_record.specs.Fitting.{HasWords}
use Rattle.xt_record.proofs.Bounded.{IsServedEntry}
use Rattle.xt_record.proofs.Rereading.{FitsEntry, FitsOptions}

outside : (a : ℕ) → 2 ^ 32 ≤ a → region_of a ≡ None
unfolding region_of
outside a le = grind (arith, nat_tests)

no_uart : (a : ℕ) → 2 ^ 32 ≤ a → is_uart a ≡ false
no_uart a le = grind (arith, nat_tests)

executable_small : (a : ℕ) → is_executable (region_of a) ≡ true → a < 2 ^ 32
executable_small a h = by_test (ltb a (2 ^ 32)) refl
  where
    by_test : (b : Bool) → ltb a (2 ^ 32) ≡ b → a < 2 ^ 32
    by_test true e = ltb-true a (2 ^ 32) e
    by_test false e = absurd (let x : is_executable None ≡ true = ap is_executable (sym (outside a (ltb-false a (2 ^ 32) e))) ∙ h in cc)

nowhere : (m u x y : Bool) → m ≡ false → u ≡ false → ((m && x) || (u && y)) ≡ false
nowhere m u x y h k = ap₂ (λ p q. (p && x) || (q && y)) h k

served_small : (a : Access) → is_mapped a ≡ true → a.addr < 2 ^ 32
served_small a h = by_test (ltb a.addr (2 ^ 32)) refl
  where
    by_test : (b : Bool) → ltb a.addr (2 ^ 32) ≡ b → a.addr < 2 ^ 32
    by_test true e = ltb-true a.addr (2 ^ 32) e
    by_test false e =
        let le = ltb-false a.addr (2 ^ 32) e in
        let none = nowhere (is_memory (region_of a.addr)) (is_uart a.addr) _ (uart_takes a.kind) (ap is_memory (outside a.addr le)) (no_uart a.addr le) in
        absurd (let x : false ≡ true = sym none ∙ (and_parts (kind_fits a.kind a.size) _ (and_parts (is_size a.size) _ h).1).1 in cc)

pub options_fit : (o : Options) → IsValid o → o.vecbase < 2 ^ 32 → FitsOptions o
options_fit o h vecbase = record {
  turns0 = omega (arith, h.turns0);
  turns1 = omega (arith, h.turns1);
  entry1 = executable_small o.entry1 h.entry1;
  vecbase = vecbase;
  lo0 = omega (arith, h.stack0.size, h.stack0.high);
  hi0 = omega (arith, h.stack0.high);
  lo1 = omega (arith, h.stack1.size, h.stack1.high);
  hi1 = omega (arith, h.stack1.high);
}

pub entries_fit : (es : List Entry) → All IsServedEntry es → All HasWords es → All FitsEntry es
entries_fit [] h k = All-nil FitsEntry
entries_fit (e ∷ es) h k =
    let words = All-head HasWords e es k in
    All-cons FitsEntry e es (record { addr = served_small e.access (All-head IsServedEntry e es h); first = words.first; second = words.second; reply = words.reply })
    (entries_fit es (All-tail IsServedEntry e es h) (All-tail HasWords e es k))
