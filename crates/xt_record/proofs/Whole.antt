-- Carries a proof; nothing that a reader must believe.
-- A recording that was written, read again: no rule fails, and the image and the run are the same.
use Rattle.std.proofs.Common.{◌≡◌, ℕ, suc, ◌+◌, ◌*◌, ◌<◌, ◌≤◌, ◌^◌, ◌||◌, ◌&&◌, Bool, true, false, Some, None, List, [], ◌∷◌, ◌++◌, length, map, take, drop, refl, sym, ap, ap₂, ◌∙◌, subst, append_assoc, length-append, arith}
use Rattle.std.specs.Prelude.{All, not, option_map}
use Rattle.std.specs.List.{concat, flat_map}
use Rattle.std.specs.Str.{bytes_eq}
use Rattle.std.proofs.Math.Dec.{eqb, ltb}
use Rattle.std.proofs.lemmas.Bool.{cond-true, eq-eqb, le-leb, le-ltb, lt-ltb}
use Rattle.std.proofs.lemmas.List.{drop_at}
use Rattle.std.proofs.lemmas.List.Elements.{All-head, All-tail}
use Rattle.xt_map.specs.declared.access.Entry.{Entry}
use Rattle.xt_map.specs.declared.access.Kind.{Kind}
use Rattle.xt_map.specs.declared.access.Kind.TheVariants.{Load, Store, Cas}
use Rattle.xt_map.specs.History.{IsOfCores}
use Rattle.xt_map.specs.Regions.{is_mapped}
use Rattle.xt_trace.specs.declared.options.Options.{Options}
use Rattle.xt_trace.specs.declared.options.Stack.{Stack}
use Rattle.xt_trace.specs.declared.run.Run.{Run}
use Rattle.xt_trace.specs.Validity.{IsValid, IsValidStack}
use Rattle.xt_image.specs.declared.image.Image.{Image}
use Rattle.xt_image.specs.Layout.{word_at}
use Rattle.xt_image.specs.Format.{image_of}
use Rattle.xt_image.specs.ImageParts.{IsWellFormed, image_bytes}
use Rattle.xt_image.specs.Rules.{image_fault}
use Rattle.xt_image.proofs.Written.{file_again}
use Rattle.xt_core.specs.Runs.{IsRunOf}
use Rattle.xt_record.specs.declared.fault.RecordFault.TheVariants as fault
use Rattle.xt_record.specs.Checkpoints.{checkpoints_of}
use Rattle.xt_record.specs.Fields as field
use Rattle.xt_record.specs.Fields.{behind_image, checkpoint_count, checkpoint_size, checkpoints_in, blocks, entries_end, entry_count, image_in, image_length, image_part, length_behind, magic, options_at, raws_from, raws_in, version, words}
use Rattle.xt_record.specs.Fitting.{FitsRun}
use Rattle.xt_record.specs.Format.{recording_fault, run_in, run_with}
use Rattle.xt_record.specs.RecordingParts.{entry_bytes, options_bytes}
use Rattle.xt_image.specs.Findings.{fails, first, or_else}
use Rattle.xt_record.specs.Rules.{Finding, is_entry, is_valid, is_valid_stack, options_finding, part_rules, shape_finding}
use Rattle.xt_record.specs.Standing.{turn_rules}
use Rattle.xt_record.specs.TurnRules.{checkpoint_finding, first_difference}
use Rattle.xt_record.specs.Written.{recording_bytes}
use Rattle.xt_record.proofs.Again.{run_again}
use Rattle.xt_record.proofs.Bounded.{IsServedEntry, entries_few, entries_served, points_few, points_long}
use Rattle.xt_record.proofs.Lawful.{no_difference, no_turn_rule}
use Rattle.xt_record.proofs.Ranging.{entries_fit, options_fit}
use Rattle.xt_record.proofs.Rereading.{FitsEntry, behind_again, blocks_again, entries_again, entries_length, head, image_again, length_again, options_again, points_length, raw_of, raws_again, version_again, word_behind, word_first}
use Rattle.xt_record.proofs.Ruling.{by_run}

-- ---- what follows the image

-- options, entries and checkpoints as they are written
abbrev pub behind : Options → List Entry → List (List ℕ) → List ℕ
behind o es points =
    options_bytes o ++ (words (length es ∷ []) ++ (flat_map entry_bytes es ++ (words (length points ∷ []) ++ concat points)))

abbrev AreLong : List (List ℕ) → Type 0
AreLong points = All (λ (p : List ℕ). length p ≡ checkpoint_size) points

-- the options, the entries and their count
abbrev front : Options → List Entry → List ℕ
front o es = options_bytes o ++ (words (length es ∷ []) ++ flat_map entry_bytes es)

front_long : (o : Options) (es : List Entry) → length (front o es) ≡ 36 + 20 * length es
front_long o es =
    let N = words (length es ∷ []) in
    let E = flat_map entry_bytes es in
    length-append (options_bytes o) (N ++ E) ∙ ap (λ (n : ℕ). 32 + n) (length-append N E ∙ ap (λ (n : ℕ). 4 + n) (entries_length es))
    ∙ (let e : 32 + (4 + 20 * length es) ≡ 36 + 20 * length es = omega arith in e)

behind_is : (o : Options) (es : List Entry) (points : List (List ℕ)) → behind o es points ≡ front o es ++ (words (length points ∷ []) ++ concat points)
behind_is o es points =
    let M = words (length points ∷ []) ++ concat points in
    let E = flat_map entry_bytes es in
    let N = words (length es ∷ []) in
    ap (λ (l : List ℕ). options_bytes o ++ l) (sym (append_assoc N E M)) ∙ sym (append_assoc (options_bytes o) (N ++ E) M)

count_again : (o : Options) (es : List Entry) (points : List (List ℕ)) → length es < 2 ^ 32 → entry_count (behind o es points) ≡ length es
unfolding word_at
count_again o es points lt = word_first (length es) [] lt

end_again : (o : Options) (es : List Entry) (points : List (List ℕ)) → length es < 2 ^ 32 → entries_end (behind o es points) ≡ length (front o es)
end_again o es points lt = ap (λ (n : ℕ). 36 + 20 * n) (count_again o es points lt) ∙ sym (front_long o es)

pub raws_are : (o : Options) (es : List Entry) (points : List (List ℕ)) → length es < 2 ^ 32 → All FitsEntry es → raws_in (behind o es points) ≡ map raw_of es
raws_are o es points lt fits =
    ap (λ (n : ℕ). raws_from n (behind o es points) 36) (count_again o es points lt)
    ∙ raws_again es (options_bytes o ++ words (length es ∷ [])) (words (length points ∷ []) ++ concat points) 36 refl fits

points_count : (o : Options) (es : List Entry) (points : List (List ℕ)) → length es < 2 ^ 32 → length points < 2 ^ 32
    → checkpoint_count (behind o es points) ≡ length points
points_count o es points lt small =
    ap₂ word_at (behind_is o es points) (end_again o es points lt ∙ (let e : length (front o es) ≡ length (front o es) + 0 = omega arith in e))
    ∙ word_behind (front o es) (words (length points ∷ []) ++ concat points) 0
    ∙ word_first (length points) (concat points) small

pub points_are : (o : Options) (es : List Entry) (points : List (List ℕ)) → length es < 2 ^ 32 → length points < 2 ^ 32 → AreLong points
    → checkpoints_in (behind o es points) ≡ points
points_are o es points lt small long =
    let M = words (length points ∷ []) in
    let whole : behind o es points ≡ (front o es ++ M) ++ concat points = behind_is o es points ∙ sym (append_assoc (front o es) M (concat points)) in
    let size : length (front o es ++ M) ≡ entries_end (behind o es points) + 4 =
    length-append (front o es) M ∙ ap (λ (n : ℕ). n + 4) (sym (end_again o es points lt)) in
    ap₂ blocks (points_count o es points lt small)
    (ap (drop (entries_end (behind o es points) + 4)) whole ∙ drop_at (front o es ++ M) (concat points) (entries_end (behind o es points) + 4) size)
    ∙ blocks_again points long

pub behind_long : (o : Options) (es : List Entry) (points : List (List ℕ)) → length es < 2 ^ 32 → length points < 2 ^ 32 → AreLong points
    → length (behind o es points) ≡ length_behind 2 (behind o es points)
behind_long o es points lt small long =
    ap length (behind_is o es points) ∙ length-append (front o es) (words (length points ∷ []) ++ concat points)
    ∙ ap (λ (x : ℕ). length (front o es) + x) (length-append (words (length points ∷ [])) (concat points))
    ∙ ap₂ (λ (x y : ℕ). x + (4 + y)) (sym (end_again o es points lt)) (points_length points long ∙ ap (λ (n : ℕ). checkpoint_size * n) (sym (points_count o es points lt small)))
    ∙ (let e : entries_end (behind o es points) + (4 + checkpoint_size * checkpoint_count (behind o es points)) ≡ entries_end (behind o es points) + 4 + checkpoint_size * checkpoint_count (behind o es points) = omega arith in e)

-- ---- the rules of the parts

nine_none : (a b c d e f g h i : Finding) → a ≡ None → b ≡ None → c ≡ None → d ≡ None → e ≡ None → f ≡ None → g ≡ None → h ≡ None → i ≡ None
    → first (a ∷ b ∷ c ∷ d ∷ e ∷ f ∷ g ∷ h ∷ i ∷ []) ≡ None
nine_none a b c d e f g h i p q r s t u v w x =
    ap₂ or_else p (ap₂ or_else q (ap₂ or_else r (ap₂ or_else s (ap₂ or_else t (ap₂ or_else u (ap₂ or_else v (ap₂ or_else w (ap₂ or_else x refl))))))))

both : (a b : Bool) → a ≡ true → b ≡ true → (a && b) ≡ true
both a b h k = ap₂ (λ x y. x && y) h k

stack_valid : (s : Stack) → IsValidStack s → is_valid_stack s ≡ true
stack_valid s h =
    both _ _ (le-leb 0x3FFAE000 s.lo h.low) (both _ _ (le-leb s.hi 0x40000000 h.high) (both _ _ (eq-eqb _ 0 h.lo_aligned)
    (both _ _ (eq-eqb _ 0 h.hi_aligned) (le-leb (s.lo + 256) s.hi h.size))))

options_valid : (o : Options) → IsValid o → is_valid o ≡ true
options_valid o h =
    both _ _ (le-leb o.turns0 4000000 h.turns0) (both _ _ (le-leb o.turns1 4000000 h.turns1) (both _ _ h.entry1 (both _ _ (eq-eqb _ 0 h.vecbase)
    (both _ _ (stack_valid o.stack0 h.stack0) (stack_valid o.stack1 h.stack1)))))

kind_is_entry : (c size addr reply : ℕ) (k : Kind) → c < 2 → is_mapped (record { addr = addr; size = size; kind = k }) ≡ true
    → is_entry (raw_of (record { core = c; access = record { addr = addr; size = size; kind = k }; reply = reply })) ≡ true
kind_is_entry c size addr reply Load lt served = both (ltb c 2) _ (lt-ltb c 2 lt) served
kind_is_entry c size addr reply (Store v) lt served = both (ltb c 2) _ (lt-ltb c 2 lt) served
kind_is_entry c size addr reply (Cas x n) lt served = both (ltb c 2) _ (lt-ltb c 2 lt) served

shapes_none : (i : ℕ) (es : List Entry) → IsOfCores es → All IsServedEntry es → shape_finding i (map raw_of es) ≡ None
shapes_none i [] cores served = refl
shapes_none i (e ∷ es) cores served =
    cond-true (is_entry (raw_of e)) (shape_finding (suc i) (map raw_of es)) (Some (fault.Entry i))
    (kind_is_entry e.core e.access.size e.access.addr e.reply e.access.kind (cores 0 e refl) (All-head IsServedEntry e es served))
    ∙ shapes_none (suc i) es (λ k x at. cores (suc k) x at) (All-tail IsServedEntry e es served)

-- ---- the whole

regroup : (h f o n e m c : List ℕ) → (((((h ++ f) ++ o) ++ n) ++ e) ++ m) ++ c ≡ h ++ (f ++ (o ++ (n ++ (e ++ (m ++ c)))))
regroup h f o n e m c = simp append_assoc

abbrev joined : Image → Run → List ℕ
joined image r = head (length (image_bytes image)) ++ (image_bytes image ++ behind r.options r.history (checkpoints_of image r))

joined_is : (image : Image) (r : Run) → recording_bytes image r ≡ joined image r
unfolding recording_bytes
joined_is image r =
    regroup (head (length (image_bytes image))) (image_bytes image) (options_bytes r.options) (words (length r.history ∷ [])) (flat_map entry_bytes r.history)
    (words (length (checkpoints_of image r) ∷ [])) (concat (checkpoints_of image r))

-- what a recording holds of an image and a run
pub record Holds (image : Image) (r : Run) (bytes : List ℕ) : Type 0 where
  pub long : 12 ≤ length bytes
  pub magic_is : take 4 bytes ≡ magic
  pub version_is : version bytes ≡ 2
  pub length_is : image_length bytes ≤ 8388608
  pub part_is : image_part bytes ≡ image_bytes image
  pub options_are : options_at (behind_image bytes) 0 ≡ r.options
  pub raws : raws_in (behind_image bytes) ≡ map raw_of r.history
  pub points : checkpoints_in (behind_image bytes) ≡ checkpoints_of image r
  pub size : length (behind_image bytes) ≡ length_behind 2 (behind_image bytes)

holds : (image : Image) (r : Run) → IsWellFormed image → IsRunOf image r → FitsRun r → Holds image r (joined image r)
holds image r w h fits =
    let file = image_bytes image in
    let cs = checkpoints_of image r in
    let rest = behind r.options r.history cs in
    let lt : length r.history < 2 ^ 32 = omega (arith, entries_few image r h) in
    let small : length cs < 2 ^ 32 = omega (arith, points_few image r h) in
    let short : length file < 2 ^ 32 = omega (arith, w.short) in
    let apart : behind_image (joined image r) ≡ rest = behind_again file rest short in
    record {
      long = omega (arith, length-append (head (length file)) (file ++ rest));
      magic_is = refl;
      version_is = version_again (length file) (file ++ rest);
      length_is = omega (arith, length_again (length file) (file ++ rest) short, w.short);
      part_is = image_again file rest short;
      options_are = ap (λ (l : List ℕ). options_at l 0) apart ∙ options_again r.options (words (length r.history ∷ []) ++ (flat_map entry_bytes r.history ++ (words (length cs ∷ []) ++ concat cs))) (options_fit r.options h.valid fits.vecbase);
      raws = ap raws_in apart ∙ raws_are r.options r.history cs lt (entries_fit r.history (entries_served image r h) fits.entries);
      points = ap checkpoints_in apart ∙ points_are r.options r.history cs lt small (points_long image r);
      size = subst (λ (l : List ℕ). length l ≡ length_behind 2 l) (sym apart) (behind_long r.options r.history cs lt small (points_long image r));
    }

pub holds_again : (image : Image) (r : Run) → IsWellFormed image → IsRunOf image r → FitsRun r → Holds image r (recording_bytes image r)
holds_again image r w h fits = subst (Holds image r) (sym (joined_is image r)) (holds image r w h fits)

no_part_rule : (image : Image) (r : Run) (bytes : List ℕ) → IsWellFormed image → IsRunOf image r → Holds image r bytes → first (part_rules bytes) ≡ None
no_part_rule image r bytes w h is =
    let rest = behind_image bytes in
    let known : (v : ℕ) → v ≡ 2 → not (eqb v 1 || eqb v 2) ≡ false = λ v e. ap (λ (n : ℕ). not (eqb n 1 || eqb n 2)) e in
    let equal : length rest ≡ length_behind (version bytes) rest = is.size ∙ ap (λ (v : ℕ). length_behind v rest) (sym is.version_is) in
    nine_none _ _ _ _ _ _ _ _ _ (ap (λ (b : Bool). fails b fault.Short) (le-ltb (length bytes) 12 is.long))
    (ap (λ (l : List ℕ). fails (not (bytes_eq l magic)) fault.Magic) is.magic_is)
    (ap (λ (b : Bool). fails b (fault.Version (version bytes))) (known (version bytes) is.version_is))
    (ap (λ (b : Bool). fails b fault.Short) (le-ltb 8388608 (image_length bytes) is.length_is))
    (ap (λ (b : Bool). fails b fault.Short) (le-ltb (length rest) (length_behind (version bytes) rest) (omega (arith, equal))))
    (ap (λ (b : Bool). fails b fault.Trailing) (le-ltb (length_behind (version bytes) rest) (length rest) (omega (arith, equal))))
    (ap (λ (l : List ℕ). option_map fault.Image (image_fault l)) is.part_is ∙ ap (option_map fault.Image) w.no_fault)
    (ap₂ options_finding is.version_is is.options_are ∙ ap (λ (b : Bool). fails (not b || false) fault.Options) (options_valid r.options h.valid))
    (ap (shape_finding 0) is.raws ∙ shapes_none 0 r.history h.cores (entries_served image r h))

image_is : (image : Image) (r : Run) (bytes : List ℕ) → IsWellFormed image → Holds image r bytes → image_in bytes ≡ image
unfolding image_bytes
image_is image r bytes w is = ap image_of is.part_is ∙ file_again image _ [] w.fits

-- the law, of what holds the image and the run
read_again : (image : Image) (r : Run) (bytes : List ℕ) → IsWellFormed image → IsRunOf image r → Holds image r bytes
    → (recording_fault bytes ≡ None) × (image_in bytes ≡ image) × (run_in bytes ≡ r)
read_again image r bytes w h is =
    let rest = behind_image bytes in
    let same : image_in bytes ≡ image = image_is image r bytes w is in
    let entries : map field.entry_of (raws_in rest) ≡ r.history = ap (map field.entry_of) is.raws ∙ entries_again r.history in
    let run : run_with image r.options r.history ≡ r = run_again image r h in
    let points : checkpoint_finding (version bytes) rest image (run_with image r.options r.history) ≡ None =
    ap₂ (λ v x. checkpoint_finding v rest image x) is.version_is run
    ∙ ap (λ (l : List (List ℕ)). option_map fault.Checkpoint (first_difference l (checkpoints_of image r))) is.points
    ∙ ap (option_map fault.Checkpoint) (no_difference (checkpoints_of image r)) in (
      by_run bytes image r.options r.history None None (no_part_rule image r bytes w h is) (sym same) (sym is.options_are) (sym entries)
          (ap (λ (x : Run). first (turn_rules image x)) run ∙ no_turn_rule image r h) points,
      same,
      ap (λ (i : Image). run_with i (options_at rest 0) (map field.entry_of (raws_in rest))) same ∙ ap₂ (run_with image) is.options_are entries ∙ run,
    )

pub written_again : (image : Image) (r : Run) → IsWellFormed image → IsRunOf image r → FitsRun r
    → (recording_fault (recording_bytes image r) ≡ None) × (image_in (recording_bytes image r) ≡ image) × (run_in (recording_bytes image r) ≡ r)
written_again image r w h fits = read_again image r (recording_bytes image r) w h (holds_again image r w h fits)
