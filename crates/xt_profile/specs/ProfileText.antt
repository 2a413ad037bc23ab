-- What `profile` prints ('profile').
use Rattle.std.specs.Prelude.{ℕ, Bool, true, false, nat_lt, List, [], ◌∷◌, ◌++◌, length, drop}
use Rattle.std.specs.Prelude.{codes}
use Rattle.std.specs.Fmt.{decimal}
use Rattle.std.specs.List.{flat_map}
use Rattle.xt_word.specs.Hexadecimal.{hex8}
use Rattle.xt_profile.specs.declared.profiles.CoreProfile.{CoreProfile}
use Rattle.xt_profile.specs.declared.profiles.CoreTurns.{CoreTurns}
use Rattle.xt_profile.specs.declared.profiles.Profile.{Profile}
use Rattle.xt_profile.specs.declared.profiles.Profile.TheVariants.{Unchecked, Cores}
use Rattle.xt_profile.specs.declared.profiles.ProfileLine.{ProfileLine}
use Rattle.xt_profile.specs.declared.profiles.WholeProfile.{WholeProfile}

-- addresses, joined by `;`
abbrev pub next_text : ℕ → List ℕ
next_text a = codes ";" ++ hex8 a

-- those behind the first, of which the first is `..` where the key was cut
abbrev pub more_text : Bool → List ℕ → List ℕ
more_text false more = flat_map next_text more
more_text true more = codes ";.." ++ flat_map next_text (drop 1 more)

abbrev pub key_text : ℕ → List ℕ → List ℕ
key_text depth [] = []
key_text depth (a ∷ more) = hex8 a ++ more_text (nat_lt depth (length (a ∷ more))) more

-- `core C KEY N`
unfoldable pub line_text : ℕ → ℕ → ProfileLine → List ℕ
line_text depth core l =
    codes "core " ++ decimal core ++ codes " " ++ key_text depth l.key ++ codes " "
    ++ decimal l.count ++ codes "\n"

abbrev pub lines_text : ℕ → ℕ → List ProfileLine → List ℕ
lines_text depth core ls = flat_map (line_text depth core) ls

-- `core C handlers H after A`
unfoldable pub rest_text : ℕ → CoreProfile → List ℕ
rest_text core p =
    codes "core " ++ decimal core ++ codes " handlers " ++ decimal p.handlers ++ codes " after "
    ++ decimal p.after ++ codes "\n"

abbrev pub core_text : ℕ → ℕ → CoreProfile → List ℕ
core_text depth core p = lines_text depth core p.lines ++ rest_text core p

-- of a profile whose keys were cut at this depth
unfoldable pub profile_text : ℕ → Profile → List ℕ
profile_text depth Unchecked = codes "profile none\n"
profile_text depth (Cores a b) = core_text depth 0 a ++ core_text depth 1 b

-- ---- with the turns from the cut on

-- `~core C KEY N`
abbrev pub after_line_text : ℕ → ℕ → ProfileLine → List ℕ
after_line_text depth core l = codes "~" ++ line_text depth core l

-- `~core C handlers H`
unfoldable pub after_rest_text : ℕ → CoreTurns → List ℕ
after_rest_text core t =
    codes "~core " ++ decimal core ++ codes " handlers " ++ decimal t.handlers ++ codes "\n"

abbrev pub after_text : ℕ → ℕ → CoreTurns → List ℕ
after_text depth core t = flat_map (after_line_text depth core) t.lines ++ after_rest_text core t

abbrev pub whole_by : ℕ → Profile → CoreTurns → CoreTurns → List ℕ
whole_by depth Unchecked after0 after1 =
    codes "profile none\n" ++ after_text depth 0 after0 ++ after_text depth 1 after1
whole_by depth (Cores a b) after0 after1 =
    core_text depth 0 a ++ after_text depth 0 after0
    ++ core_text depth 1 b ++ after_text depth 1 after1

-- of a profile with those turns, whose keys were cut at this depth
unfoldable pub whole_text : ℕ → WholeProfile → List ℕ
whole_text depth w = whole_by depth w.profile w.after0 w.after1
