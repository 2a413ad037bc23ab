-- The functions that a core is in, and the key of a step ('profile'). Steps stand the latest first.
--
-- Profile: the functions of a core are those of the frames that stand in the machine with unbounded
-- frames, so a window exception changes nothing, and a function is known by the address of its
-- ENTRY, since an image has no names.
-- Profile: the PC of the ENTRY that pushed a frame is found by a search back in the steps: of those
-- that stand, frame d was pushed by the latest step before which fewer than d frames stood, and
-- after which d or more.
-- Profile: a key is cut to as many functions as are asked for, so that a deep recursion has no line
-- for each depth. A cut key keeps the first function, since a flame graph has one root, and the
-- last ones, since the innermost is where the turns go.
-- Note: 0 in a cut key stands for those that are left out; it is no function.
use Rattle.std.specs.Prelude.{ℕ, zero, suc, ◌-◌, ◌&&◌, nat_le, nat_lt, if◌then◌else◌}
use Rattle.std.specs.Prelude.{List, [], ◌∷◌, ◌++◌, length, take, drop}
use Rattle.xt_frames.specs.declared.kinds.HandlerPhase.{HandlerPhase}
use Rattle.xt_frames.specs.declared.kinds.HandlerPhase.TheVariants.{Outside, InHandler, Nested}
use Rattle.xt_profile.specs.Steps.{Step}

-- The PC of the ENTRY that pushed frame d of those that stand after these steps, where the oldest
-- is frame 1: of the latest step that took their number from below d to d or more.
abbrev pub entry_of_frame : ℕ → List Step → ℕ
entry_of_frame d [] = 0
entry_of_frame d (s ∷ past) =
    if nat_lt s.before d && nat_le d s.after then s.pc else entry_of_frame d past

-- that of each of the n oldest frames, the oldest first
abbrev pub pushes : ℕ → List Step → List ℕ
pushes zero past = []
pushes (suc d) past = pushes d past ++ entry_of_frame (suc d) past ∷ []

-- the function list where n frames stand: the core's opening PC, then the PC of each ENTRY
abbrev pub functions : ℕ → ℕ → List Step → List ℕ
functions opening n past = opening ∷ pushes n past

-- where a core opened, and how many functions a key has at most
pub record Start : Type 0 where
  pub pc : ℕ
  pub depth : ℕ

-- The functions of a key: all, where there are no more than `depth`. Else the key is cut: it has
-- the first of them, 0 for those that are left out, and the last `depth` less one. So a cut key has
-- one number more than any whole one may have.
abbrev pub shown_key : ℕ → List ℕ → List ℕ
shown_key depth xs =
    if nat_le (length xs) depth then xs else take 1 xs ++ 0 ∷ drop (length xs - (depth - 1)) xs

-- handler steps have no key
abbrev pub with_key : HandlerPhase → List ℕ → List (List ℕ) → List (List ℕ)
with_key Outside key keys = key ∷ keys
with_key InHandler key keys = keys
with_key Nested key keys = key ∷ keys

-- the keys of the judged steps, each by the function list before its step
abbrev pub keys : Start → List Step → List (List ℕ)
keys opening [] = []
keys opening (s ∷ past) =
    with_key
    s.phase
    (shown_key opening.depth (functions opening.pc s.before past))
    (keys opening past)

abbrev pub with_handler : HandlerPhase → ℕ → ℕ
with_handler Outside n = n
with_handler InHandler n = suc n
with_handler Nested n = n

-- how many handler steps there are
abbrev pub handlers : List Step → ℕ
handlers [] = 0
handlers (s ∷ past) = with_handler s.phase (handlers past)
