-- A run of an image, watched for its first leak ('profile'): where its cores open, which bytes are
-- secret or public, and its turns in the order of its schedule.
use Rattle.std.specs.Prelude.{ℕ, Bool, false, ◌||◌, List, [], ◌∷◌}
use Rattle.xt_map.specs.Touching.{touches}
use Rattle.xt_image.specs.declared.image.Image.{Image}
use Rattle.xt_trace.specs.declared.run.Run.{Run}
use Rattle.xt_trace.specs.Schedule.{schedule_in}
use Rattle.xt_frames.specs.FirstBreach.{turns}
use Rattle.xt_core.specs.Runs.{code_of, entry_of, opening_at, records_of}
use Rattle.xt_simulation.specs.FirstLeak.{Watched}

-- one of these ranges, of which each is its first address and its number of bytes, has a byte at this
-- address
abbrev pub has_byte_at : List (ℕ × ℕ) → ℕ → Bool
has_byte_at [] a = false
has_byte_at (range ∷ rest) a = touches range.0 range.1 a || has_byte_at rest a

-- both cores open as the options of the run say
abbrev pub watched_of : Image → Run → (ℕ → Bool) → (ℕ → Bool) → Watched
watched_of image r secret public = record {
  code = code_of image;
  opening0 = opening_at 0 (entry_of 0 image r.options) r.options;
  opening1 = opening_at 1 (entry_of 1 image r.options) r.options;
  secret = secret;
  public = public;
  turns = turns (schedule_in r) (records_of 0 image r).records (records_of 1 image r).records;
}
