-- What an event says at length, its own or lent.
use Rattle.std.specs.Prelude.{ℕ, List}
use Rattle.dkg_text.specs.declared.held.OwnOrLent.{OwnOrLent}
use Rattle.dkg_text.specs.declared.held.OwnOrLent.TheVariants.{Own, Lent}

abbrev pub items_held : OwnOrLent (List ℕ) ℕ → List ℕ
items_held (Own items) = items
items_held (Lent items) = items.now
