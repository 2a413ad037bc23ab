-- Lists in which no key stands twice ('profile').
use Rattle.std.specs.Prelude.{◌≢◌, List, [], ◌∷◌}

-- none of them has this key
abbrev pub NoneHas : {A B : Type 0} (key : A → B) → B → List A → Type 0
NoneHas key k [] = Unit {0}
NoneHas key k (x ∷ xs) = (key x ≢ k) × NoneHas key k xs

-- no two of them have one key
abbrev pub HaveOwn : {A B : Type 0} (key : A → B) → List A → Type 0
HaveOwn key [] = Unit {0}
HaveOwn key (x ∷ xs) = NoneHas key (key x) xs × HaveOwn key xs
