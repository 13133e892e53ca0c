-- What a block carries by its line.
use Rattle.std.specs.Prelude.{ℕ, List}
use Rattle.dkg_text.specs.FoundPayloads.{found_bytes}
use Rattle.dkg_text.specs.declared.payload_bytes.Form.{Form}
use Rattle.dkg_text.specs.declared.payload_bytes.Form.TheVariants.{Plain, Read}

-- the bytes, however they lie
abbrev pub carried_bytes : Form → List ℕ
carried_bytes (Plain bytes) = bytes
carried_bytes (Read found) = found_bytes found
