-- What each row of a list has, one line a row: `a ▸ b ▸ tt` for two rows.
infixr 5 ◌▸◌
abbrev pub ◌▸◌ : {A B : Type 0} → A → B → A × B
a ▸ b = (a, b)
