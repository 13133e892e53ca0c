-- The coefficients of a public half, wherever they lie.
use Rattle.std.specs.Prelude.{ℕ, List}
use Rattle.dkg_ceremony.specs.declared.public.Form.{Form}
use Rattle.dkg_ceremony.specs.declared.public.Form.TheVariants.{Few, Many}

abbrev pub coefficients : Form → List ℕ
coefficients (Few short) = short
coefficients (Many elements) = elements.value.items
