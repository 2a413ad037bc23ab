-- A string byte by byte.
use Rattle.std.proofs.Common.{◌≡◌, ◌+◌, ℕ, Bool, true, false, cond, List, [], ◌∷◌, ◌++◌, drop, Option, Some, None, refl, sym, ◌∙◌, ap, append_assoc, add_assoc, ◌==◌}
use Rattle.std.specs.Option.{option_map}
use Rattle.xt_lex.specs.TextBytes.{escaped_byte, is_plain}
use Rattle.xt_lex.specs.Fronts.{begins_with_quote, string_body, string_piece, and_then, after_escape}

abbrev pub Body : Type 0
Body = Option (List ℕ × ℕ)

-- a string's rest after some bytes, which took so many
abbrev pub behind : List ℕ → ℕ → Body → Body
behind held width body = option_map (λ r. (held ++ r.0, width + r.1)) body

pub behind_more : (held : List ℕ) (width byte taken : ℕ) (body : Body) → behind held width (and_then byte taken body) ≡ behind (held ++ byte ∷ []) (width + taken) body
behind_more held width byte taken None = refl
behind_more held width byte taken (Some r) = ap (λ x. Some x) (ap (λ l. (l, width + (taken + r.1))) (sym (append_assoc held (byte ∷ []) r.0)) ∙ ap (λ n. (((held ++ byte ∷ []) ++ r.0), n)) (sym (add_assoc width taken r.1)))

piece_goes : (quote backslash plain : Bool) (e : Option ℕ) (b byte taken : ℕ) (one two : Body) (at : ℕ → Body) → at 1 ≡ one → at 2 ≡ two
    → cond {A = Option (ℕ × ℕ)} quote None (cond {A = Option (ℕ × ℕ)} backslash (option_map (λ x. (x, 2)) e) (cond {A = Option (ℕ × ℕ)} plain (Some (b, 1)) None)) ≡ Some (byte, taken)
    → cond {A = Body} quote (Some ([], 1)) (cond {A = Body} backslash (after_escape e two) (cond plain (and_then b 1 one) None)) ≡ and_then byte taken (at taken)
piece_goes true backslash plain e b byte taken one two at is1 is2 h = cc
piece_goes false true plain None b byte taken one two at is1 is2 h = cc
piece_goes false true plain (Some x) b byte taken one two at is1 is2 h =
    let p : (x, 2) ≡ (byte, taken) = cc in
    let here : x ≡ byte = ap (λ (z : ℕ × ℕ). z.0) p in
    let wide : 2 ≡ taken = ap (λ (z : ℕ × ℕ). z.1) p in
    rw (sym here, sym wide, is2) refl
piece_goes false false true e b byte taken one two at is1 is2 h =
    let p : (b, 1) ≡ (byte, taken) = cc in
    let here : b ≡ byte = ap (λ (z : ℕ × ℕ). z.0) p in
    let wide : 1 ≡ taken = ap (λ (z : ℕ × ℕ). z.1) p in
    rw (sym here, sym wide, is1) refl
piece_goes false false false e b byte taken one two at is1 is2 h = cc

-- where a piece stands at the front, the string goes on after it
pub piece_is_prefix : (bytes : List ℕ) (byte taken : ℕ) → string_piece bytes ≡ Some (byte, taken) → string_body bytes ≡ and_then byte taken (string_body (drop taken bytes))
unfolding string_piece string_body
piece_is_prefix [] byte taken h = cc
piece_is_prefix (b ∷ []) byte taken h = cc
piece_is_prefix (b ∷ c ∷ rest) byte taken h = piece_goes (b == 34) (b == 92) (is_plain 34 b) (escaped_byte c) b byte taken (string_body (c ∷ rest)) (string_body rest) (λ n. string_body (drop n (b ∷ c ∷ rest))) refl refl h

piece_ends : (quote backslash plain : Bool) (e : Option ℕ) (b : ℕ) (one two : Body)
    → cond {A = Option (ℕ × ℕ)} quote None (cond {A = Option (ℕ × ℕ)} backslash (option_map (λ x. (x, 2)) e) (cond {A = Option (ℕ × ℕ)} plain (Some (b, 1)) None)) ≡ None
    → cond {A = Body} quote (Some ([], 1)) (cond {A = Body} backslash (after_escape e two) (cond plain (and_then b 1 one) None)) ≡ cond {A = Body} quote (Some ([], 1)) None
piece_ends true backslash plain e b one two h = refl
piece_ends false true plain None b one two h = refl
piece_ends false true plain (Some x) b one two h = cc
piece_ends false false true e b one two h = cc
piece_ends false false false e b one two h = refl

-- where no piece stands at the front, the string ends, or there is none
pub no_piece_is_end : (bytes : List ℕ) → string_piece bytes ≡ None → string_body bytes ≡ cond {A = Body} (begins_with_quote bytes) (Some ([], 1)) None
unfolding string_piece string_body
no_piece_is_end [] h = refl
no_piece_is_end (b ∷ []) h = refl
no_piece_is_end (b ∷ c ∷ rest) h = piece_ends (b == 34) (b == 92) (is_plain 34 b) (escaped_byte c) b (string_body (c ∷ rest)) (string_body rest) h
