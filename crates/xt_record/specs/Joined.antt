-- Carries a proof; nothing that a reader must believe.
-- A recording from the bytes of its image, its run and its checkpoints.
use Rattle.std.specs.Prelude.{ℕ, List, [], ◌∷◌, ◌++◌, length}
use Rattle.std.specs.List.{concat, flat_map}
use Rattle.xt_trace.specs.declared.run.Run.{Run}
use Rattle.xt_record.specs.Fields.{magic, words}
use Rattle.xt_record.specs.RecordingParts.{entry_bytes, options_bytes}

abbrev pub joined_parts : List ℕ → Run → List (List ℕ) → List ℕ
joined_parts file r points =
    magic
    ++ words (2 ∷ length file ∷ [])
    ++ file
    ++ options_bytes r.options
    ++ words (length r.history ∷ [])
    ++ flat_map entry_bytes r.history
    ++ words (length points ∷ [])
    ++ concat points
