-- Replies that are compared by what they say.
use Rattle.std.specs.Prelude.{Option, Some, None}

-- both are none, or both are some and say the same
abbrev pub SameOption : {R : Type 0} → (R → R → Type 0) → Option R → Option R → Type 0
SameOption same (Some kept) (Some given) = same kept given
SameOption same (Some kept) None = ⊥
SameOption same None (Some given) = ⊥
SameOption same None None = Unit {0}
