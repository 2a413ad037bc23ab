-- Two cores that were driven from their opening make a run of the image.
use Rattle.std.proofs.Common.{◌≡◌, ℕ, ◌+◌, List, [], length, refl, sym, ap, ◌∙◌, subst, arith}
use Rattle.xt_map.specs.declared.access.Access.{Access}
use Rattle.xt_map.specs.declared.access.Entry.{Entry}
use Rattle.xt_map.specs.declared.contents.MemoryContents.{MemoryContents}
use Rattle.xt_map.specs.declared.segment.Segment.{Segment}
use Rattle.xt_map.specs.History.{IsLegal, IsOfCores, calls_of, replies_of}
use Rattle.xt_map.specs.Memory.{constant_byte}
use Rattle.xt_trace.specs.declared.options.Options.{Options}
use Rattle.xt_trace.specs.declared.run.Run.{Run}
use Rattle.xt_trace.specs.declared.trace.Trace.{Trace}
use Rattle.xt_trace.specs.Calls.{calls_in}
use Rattle.xt_trace.specs.Validity.{IsValid}
use Rattle.xt_image.specs.declared.image.Image.{Image}
use Rattle.xt_trace.specs.Driven.{replies_in}
use Rattle.xt_trace.specs.Traces.{Traced, trace_over}
use Rattle.xt_exec.specs.Chips.{processor}
use Rattle.xt_exec.specs.State.{State}
use Rattle.xt_core.specs.Cores.{CoreState, opening_core_state, trace_of}
use Rattle.xt_core.specs.Runs.{IsRunOf, StandsFor, code_of, entry_of, memory_of, opening_at, turns_of}
use Rattle.xt_machine.specs.Driving.{WasDriven, core_after_trace}

-- what is known of one core at its end
record IsMade (code : ℕ → ℕ) (core : ℕ) (s : State) (n : ℕ) (history : List Entry) (t : Trace) : Type 0 where
  stands : StandsFor core (trace_over (processor code) s n (replies_of core history)) t
  calls : calls_of core history ≡ calls_in (trace_over (processor code) s n (replies_of core history)).records

driven_stands : (core : ℕ) (s : State) (n : ℕ) (z : Traced State) → StandsFor core z (trace_of (core_after_trace (opening_core_state core s n) z))
driven_stands core s n z =
    record { core_is = refl; count_is = (let is : 0 + length z.records ≡ length z.records = omega arith in is); places_are = refl; stop_is = refl; pc_is = refl }

driven_made : (code : ℕ → ℕ) (core : ℕ) (s : State) (n : ℕ) (after : CoreState) (list : List (Access × ℕ)) (history : List Entry)
    → WasDriven code (opening_core_state core s n) after [] list → calls_of core history ≡ list → IsMade code core s n history (trace_of after)
driven_made code core s n after list history d is =
    let made : calls_of core history ≡ d.made = is ∙ d.list in
    let over : List (Access × ℕ) → Traced State = λ calls. trace_over (processor code) s n (replies_in calls) in
    let F : CoreState → Type 0 = λ k. StandsFor core (over d.made) (trace_of k) in
    let G : List (Access × ℕ) → Type 0 = λ calls. StandsFor core (over calls) (trace_of after) in
    record {
      stands = subst G (sym made) (subst F (sym d.core) (driven_stands core s n (over d.made)));
      calls = made ∙ d.calls ∙ ap (λ (calls : List (Access × ℕ)). calls_in (over calls).records) (sym made);
    }

-- the same, of a core that is known to stand at its opening
made_from : (image : Image) (core : ℕ) (s : State) (n : ℕ) (segments : List Segment) (before after : CoreState) (old list : List (Access × ℕ)) (history : List Entry) (t : Trace)
    → segments ≡ image.segments → before ≡ opening_core_state core s n → old ≡ [] → WasDriven (constant_byte segments) before after old list → calls_of core history ≡ list
    → t ≡ trace_of after → IsMade (code_of image) core s n history t
made_from image core s n segments before after old list history t same opens empty d is told =
    let A : List Segment → Type 0 = λ x. WasDriven (constant_byte x) before after old list in
    let B : CoreState → Type 0 = λ k. WasDriven (code_of image) k after old list in
    let C : List (Access × ℕ) → Type 0 = λ l. WasDriven (code_of image) (opening_core_state core s n) after l list in
    let D : Trace → Type 0 = λ x. IsMade (code_of image) core s n history x in
    subst D (sym told) (driven_made (code_of image) core s n after list history (subst C empty (subst B opens (subst A same d))) is)

pub both_made : (image : Image) (o : Options) (segments0 segments1 : List Segment) (k0 k1 e0 e1 : CoreState) (old0 old1 list0 list1 : List (Access × ℕ)) (m : MemoryContents) (h : List Entry) (t0 t1 : Trace)
    → IsValid o → segments0 ≡ image.segments → segments1 ≡ image.segments
    → k0 ≡ opening_core_state 0 (opening_at 0 (entry_of 0 image o) o) (turns_of 0 o) → k1 ≡ opening_core_state 1 (opening_at 1 (entry_of 1 image o) o) (turns_of 1 o) → old0 ≡ [] → old1 ≡ []
    → WasDriven (constant_byte segments0) k0 e0 old0 list0 → WasDriven (constant_byte segments1) k1 e1 old1 list1
    → m ≡ memory_of image o → IsLegal m h → IsOfCores h → calls_of 0 h ≡ list0 → calls_of 1 h ≡ list1 → t0 ≡ trace_of e0 → t1 ≡ trace_of e1
    → (r : Run) → ◌≡◌ {A = Run} r (record { options = o; history = h; trace0 = t0; trace1 = t1 }) → IsRunOf image r
both_made image o segments0 segments1 k0 k1 e0 e1 old0 old1 list0 list1 m h t0 t1 valid same0 same1 opens0 opens1 empty0 empty1 d0 d1 memory legal cores calls0 calls1 told0 told1 r is =
    let made0 = made_from image 0 (opening_at 0 (entry_of 0 image o) o) (turns_of 0 o) segments0 k0 e0 old0 list0 h t0 same0 opens0 empty0 d0 calls0 told0 in
    let made1 = made_from image 1 (opening_at 1 (entry_of 1 image o) o) (turns_of 1 o) segments1 k1 e1 old1 list1 h t1 same1 opens1 empty1 d1 calls1 told1 in
    let L : MemoryContents → Type 0 = λ x. IsLegal x h in
    let R : Run → Type 0 = λ x. IsRunOf image x in
    subst R (sym is) (record {
      valid = valid;
      legal = subst L memory legal;
      cores = cores;
      trace0 = made0.stands;
      trace1 = made1.stands;
      calls0 = made0.calls;
      calls1 = made1.calls;
    })
