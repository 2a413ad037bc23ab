-- The opening memory has sent nothing.
use Rattle.std.proofs.Common.{◌≡◌, ℕ, Bool, true, false, List, [], ◌∷◌, refl, ◌∙◌}
use Rattle.std.specs.Prelude.{if◌then◌else◌}
use Rattle.xt_map.specs.declared.contents.MemoryContents.{MemoryContents}
use Rattle.xt_map.specs.declared.segment.Segment.{Segment}
use Rattle.xt_map.specs.Memory.{cleared_memory, is_loaded, low_bytes, opening_memory, with_bytes, with_segments, with_words}
use Rattle.xt_map.proofs.Sent.{sent_of_bytes}

sent_of_either : (b : Bool) (m n : MemoryContents) → m.sent ≡ n.sent → (if b then m else n).sent ≡ n.sent
sent_of_either true m n e = e
sent_of_either false m n e = refl

sent_of_segments : (m : MemoryContents) (segments : List Segment) → (with_segments m segments).sent ≡ m.sent
sent_of_segments m [] = refl
sent_of_segments m (s ∷ rest) =
    sent_of_segments (if is_loaded s then with_bytes m s.addr s.bytes else m) rest
    ∙ sent_of_either (is_loaded s) (with_bytes m s.addr s.bytes) m (sent_of_bytes m s.addr s.bytes)

sent_of_words : (m : MemoryContents) (words : List (ℕ × ℕ)) → (with_words m words).sent ≡ m.sent
sent_of_words m [] = refl
sent_of_words m (w ∷ rest) = sent_of_words (with_bytes m w.0 (low_bytes 4 w.1)) rest ∙ sent_of_bytes m w.0 (low_bytes 4 w.1)

cleared_sends_none : cleared_memory.sent ≡ []
unfolding cleared_memory
cleared_sends_none = refl

pub opening_sends_none : (segments : List Segment) (words : List (ℕ × ℕ)) → (opening_memory segments words).sent ≡ []
unfolding opening_memory
opening_sends_none segments words = sent_of_words (with_segments cleared_memory segments) words ∙ sent_of_segments cleared_memory segments ∙ cleared_sends_none
