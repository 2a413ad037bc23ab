-- The rules of the turns and of the checkpoints of a recording (this project's own format,
-- 'profile'), each by itself: what is wrong by this rule, or nothing.
use Rattle.std.specs.Prelude.{ℕ, suc, Bool, true, false, ◌==◌, ◌&&◌, not, if◌then◌else◌, List, []}
use Rattle.std.specs.Prelude.{◌∷◌, length, take, slice_get, slice_index_or, Option, Some, None}
use Rattle.std.specs.Prelude.{option_map}
use Rattle.std.specs.Option.{option_map_or}
use Rattle.std.specs.Str.{bytes_eq}
use Rattle.xt_map.specs.declared.access.Access.{Access}
use Rattle.xt_map.specs.declared.access.Entry.{Entry}
use Rattle.xt_map.specs.declared.access.Kind.{Kind}
use Rattle.xt_map.specs.declared.access.Kind.TheVariants.{Load, Store, Cas}
use Rattle.xt_map.specs.History.{calls_of, memory_after}
use Rattle.xt_map.specs.Serving.{reply_to}
use Rattle.xt_trace.specs.declared.run.Run.{Run}
use Rattle.xt_trace.specs.Calls.{calls_in}
use Rattle.xt_image.specs.declared.image.Image.{Image}
use Rattle.xt_trace.specs.Schedule.{places_from}
use Rattle.xt_trace.specs.Traces.{Traced}
use Rattle.xt_exec.specs.State.{State}
use Rattle.xt_core.specs.Runs.{memory_of, records_of}
use Rattle.xt_record.specs.declared.fault.RecordFault.TheVariants as fault
use Rattle.xt_record.specs.Fields.{behind_image, checkpoints_in, version}
use Rattle.xt_record.specs.Checkpoints.{checkpoints_of}
use Rattle.xt_image.specs.Findings.{fails, or_else}
use Rattle.xt_record.specs.Rules.{Finding}

-- ---- the entries as the accesses of a run

abbrev pub same_kind : Kind → Kind → Bool
same_kind Load Load = true
same_kind (Store v) (Store w) = v == w
same_kind (Cas e n) (Cas f m) = e == f && n == m
same_kind _ _ = false

abbrev pub same_access : Access → Access → Bool
same_access a b = a.addr == b.addr && (a.size == b.size && same_kind a.kind b.kind)

-- the k-th access of a trace is this one
abbrev pub is_call : Traced State → ℕ → Access → Bool
is_call z k a =
    option_map_or (λ (call : Access × ℕ). same_access call.0 a) (slice_get (calls_in z.records) k)
    false

-- the number of the turn with the k-th access, or how many turns there are
abbrev pub place_of : Traced State → ℕ → ℕ
place_of z k = slice_index_or (places_from 0 z.records) k (length z.records)

-- how many accesses a core made before the entry of this number
abbrev pub calls_before : Run → ℕ → ℕ → ℕ
calls_before r core i = length (calls_of core (take i r.history))

-- what memory answers to the entry of this number
abbrev pub right_reply : Image → Run → ℕ → Access → ℕ
right_reply image r i a = reply_to (memory_after (memory_of image r.options) (take i r.history)) a

-- The entry of this number is its core's next access, and its reply is that of memory. The trace is
-- the core's over the replies of its entries; its k-th access rests on the first k of them alone.
abbrev pub entry_finding : Image → Run → ℕ → Entry → Finding
entry_finding image r i e =
    let z = records_of e.core image r in
    let k = calls_before r e.core i in
    let right = right_reply image r i e.access in
    if is_call z k e.access then fails (not (e.reply == right)) (fault.Illegal i e.reply right)
    else Some (fault.Turn e.core (place_of z k))

-- the first entry that is none, from the entry of this number on
abbrev pub walk_finding : Image → Run → ℕ → List Entry → Finding
walk_finding image r i [] = None
walk_finding image r i (e ∷ rest) =
    or_else (entry_finding image r i e) (walk_finding image r (suc i) rest)

-- a core makes no access after its last entry
abbrev pub rest_finding : Image → Run → ℕ → Finding
rest_finding image r core =
    option_map (fault.Turn core)
    (slice_get (places_from 0 (records_of core image r).records) (length (calls_of core r.history)))

-- ---- the checkpoints

-- the first place where two lists differ, or where one of them ends
abbrev pub first_difference : List (List ℕ) → List (List ℕ) → Option ℕ
first_difference [] [] = None
first_difference [] (y ∷ ys) = Some 0
first_difference (x ∷ xs) [] = Some 0
first_difference (x ∷ xs) (y ∷ ys) =
    if bytes_eq x y then option_map suc (first_difference xs ys) else Some 0

-- version 1 has none
abbrev pub checkpoint_finding : ℕ → List ℕ → Image → Run → Finding
checkpoint_finding v rest image r =
    if v == 1 then None
    else option_map fault.Checkpoint
    (first_difference (checkpoints_in rest) (checkpoints_of image r))

-- ---- all of them

abbrev pub run_rules : List ℕ → Image → Run → List Finding
run_rules bytes image r =
    walk_finding image r 0 r.history
    ∷ rest_finding image r 0
    ∷ rest_finding image r 1
    ∷ checkpoint_finding (version bytes) (behind_image bytes) image r ∷ []
