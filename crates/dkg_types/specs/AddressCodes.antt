-- Sockets, addresses and directories of addresses as bytes.
use Rattle.std.proofs.Common.{◌≡◌, ℕ, zero, suc, ◌+◌, ◌*◌, ◌<◌, ◌≤◌, ◌^◌, List, [], ◌∷◌, ◌++◌, length, Err, refl, sym, ap, ◌∙◌, arith}
use Rattle.std.specs.Int.{w16, w32, to_be_bytes}
use Rattle.std.specs.List.{AllByRecursion}
use Rattle.dkg_values.specs.declared.codec.CodecError.TheVariants.{InvalidEnum}
use Rattle.dkg_values.specs.Bytes.{HasTag, tagged, tagged_at, tagged_grammar}
use Rattle.dkg_values.specs.Codec.{Reading, IsGrammar, number_at}
use Rattle.dkg_values.specs.Grammar.{ok_is}
use Rattle.dkg_values.specs.Joined.{beside_at, beside_grammar, BothFit, both_spelled, seen_at, seen_grammar}
use Rattle.dkg_values.specs.ListGrammar.{be16_grammar, be32_grammar, map_grammar}
use Rattle.dkg_values.specs.Lists.{map_at, map_spelling, MapFits, values_of}
use Rattle.dkg_values.specs.Rising.{IsMap}
use Rattle.dkg_values.specs.Sizes.{MapSizes, map_size, values_size}
use Rattle.dkg_types.specs.declared.addresses.Address.{Address}
use Rattle.dkg_types.specs.declared.addresses.Address.TheVariants.{Symmetric, Asymmetric}
use Rattle.dkg_types.specs.declared.addresses.Socket.{Socket}
use Rattle.dkg_values.specs.UintGrammar.{uint_narrow}
use Rattle.dkg_types.specs.Variants.{Always, MadeOf, variant_grammar, none_grammar}

abbrev pub socket_spelling : Socket → List ℕ
socket_spelling s = to_be_bytes w32 s.ip ++ to_be_bytes w16 s.port

abbrev pub socket_from : ℕ × ℕ → Socket
socket_from p = record { ip = p.0; port = p.1 }

abbrev pub socket_parts : Socket → ℕ × ℕ
socket_parts s = (s.ip, s.port)

abbrev pub SocketFits : Socket → Type 0
SocketFits s = BothFit (λ n. n < 2 ^ 32) (λ n. n < 2 ^ 16) (socket_parts s)

abbrev pub socket_at : List ℕ → Reading Socket
socket_at = seen_at socket_from (beside_at (number_at w32) (number_at w16))

pub socket_grammar : IsGrammar SocketFits socket_spelling socket_at
socket_grammar =
    let ip : ℕ → Type 0 = λ n. n < 2 ^ 32 in
    let port : ℕ → Type 0 = λ n. n < 2 ^ 16 in
    let both = beside_grammar ip (to_be_bytes w32) (number_at w32) port (to_be_bytes w16) (number_at w16) be32_grammar be16_grammar in
    seen_grammar (BothFit ip port) (both_spelled (to_be_bytes w32) (to_be_bytes w16)) (beside_at (number_at w32) (number_at w16)) socket_from socket_parts socket_spelling both (λ a. refl) (λ s. refl) (λ s. refl)

-- ---- addresses

abbrev pub address_tag : Address → ℕ
address_tag (Symmetric socket) = 0
address_tag (Asymmetric ingress egress) = 1

abbrev pub two_spelled : Socket × Socket → List ℕ
two_spelled = both_spelled socket_spelling socket_spelling

abbrev pub address_body : Address → List ℕ
address_body (Symmetric socket) = socket_spelling socket
address_body (Asymmetric ingress egress) = two_spelled (ingress, egress)

abbrev pub address_spelling : Address → List ℕ
address_spelling = tagged address_tag address_body

abbrev pub TwoFit : Socket × Socket → Type 0
TwoFit = BothFit SocketFits SocketFits

abbrev pub AddressFits : Address → Type 0
AddressFits (Symmetric socket) = SocketFits socket
AddressFits (Asymmetric ingress egress) = TwoFit (ingress, egress)

abbrev pub symmetric_of : Socket → Address
symmetric_of s = Symmetric s

abbrev pub asymmetric_of : Socket × Socket → Address
asymmetric_of p = Asymmetric p.0 p.1

-- a socket, to whoever reads an address
unfoldable pub address_socket_at : List ℕ → Reading Socket
address_socket_at = socket_at

unfoldable pub address_after : ℕ → List ℕ → Reading Address
address_after zero = seen_at symmetric_of address_socket_at
address_after (suc zero) = seen_at asymmetric_of (beside_at address_socket_at address_socket_at)
address_after (suc (suc tag)) = λ _. Err (InvalidEnum (suc (suc tag)))

abbrev pub address_at : List ℕ → Reading Address
address_at = tagged_at address_after

end_grammar : IsGrammar SocketFits socket_spelling address_socket_at
unfolding address_socket_at
end_grammar = socket_grammar

is_symmetric : (a : Address) → AddressFits a → address_tag a ≡ 0 → MadeOf SocketFits symmetric_of a
is_symmetric (Symmetric socket) fit e = record { of = socket; fit = fit; is = refl }
is_symmetric (Asymmetric ingress egress) fit e = absurd cc

is_asymmetric : (a : Address) → AddressFits a → address_tag a ≡ 1 → MadeOf TwoFit asymmetric_of a
is_asymmetric (Symmetric socket) fit e = absurd cc
is_asymmetric (Asymmetric ingress egress) fit e = record { of = (ingress, egress); fit = fit; is = refl }

neither : (tag : ℕ) (a : Address) → address_tag a ≡ suc (suc tag) → ⊥
neither tag (Symmetric socket) e = cc
neither tag (Asymmetric ingress egress) e = cc

after_grammar : (tag : ℕ) → IsGrammar (HasTag AddressFits address_tag tag) address_body (address_after tag)
unfolding address_after
after_grammar zero =
    variant_grammar SocketFits socket_spelling address_socket_at symmetric_of AddressFits address_tag address_body 0 end_grammar
    (record { there = λ a fit. fit; tag_is = λ a. refl; body_is = λ a. refl; back = is_symmetric })
after_grammar (suc zero) =
    let two = beside_grammar SocketFits socket_spelling address_socket_at SocketFits socket_spelling address_socket_at end_grammar end_grammar in
    variant_grammar TwoFit two_spelled (beside_at address_socket_at address_socket_at) asymmetric_of AddressFits address_tag address_body 1 two
    (record { there = λ a fit. fit; tag_is = λ a. refl; body_is = λ a. refl; back = is_asymmetric })
after_grammar (suc (suc tag)) = none_grammar AddressFits address_tag address_body (suc (suc tag)) (InvalidEnum (suc (suc tag))) (neither tag)

pub address_grammar : IsGrammar AddressFits address_spelling address_at
address_grammar = tagged_grammar AddressFits address_tag address_body address_after after_grammar

pub address_short : (a : Address) → length (address_spelling a) ≤ 13
address_short (Symmetric socket) = omega arith
address_short (Asymmetric ingress egress) = omega arith

-- ---- directories of addresses

abbrev pub AddressPairs : Type 0
AddressPairs = List (ℕ × Address)

abbrev pub addresses_spelling : AddressPairs → List ℕ
addresses_spelling = map_spelling address_spelling

abbrev pub AddressesFit : ℕ → AddressPairs → Type 0
AddressesFit count = MapFits AddressFits count count

abbrev pub addresses_at : ℕ → List ℕ → Reading AddressPairs
addresses_at count = map_at address_at count count

pub addresses_grammar : (count : ℕ) → IsGrammar (AddressesFit count) addresses_spelling (addresses_at count)
addresses_grammar count = map_grammar AddressFits address_spelling address_at address_grammar count count

-- a directory of so many peers is a map of at most as many as any more
widened : (count most : ℕ) (pairs : AddressPairs) → AddressesFit count pairs → count ≤ most → MapFits AddressFits 0 most pairs
widened count most pairs fit le = record { many = omega arith; in_bound = omega (arith, fit.in_bound, le); small = fit.small; rising = fit.rising; values = fit.values }

-- No directory's spelling begins another's, of however many peers each is.
pub addresses_no_prefix : (m n : ℕ) (a b : AddressPairs) (x y : List ℕ) → AddressesFit m a → AddressesFit n b → addresses_spelling a ++ x ≡ addresses_spelling b ++ y → (a ≡ b) × (x ≡ y)
addresses_no_prefix m n a b x y fit_a fit_b e =
    let law = map_grammar AddressFits address_spelling address_at address_grammar 0 (m + n) in
    let one = law.again a x (widened m (m + n) a fit_a (omega arith)) in
    let two = law.again b y (widened n (m + n) b fit_b (omega arith)) in
    let same = ok_is (a, x) (b, y) (sym one ∙ ap (map_at address_at 0 (m + n)) e ∙ two) in
    (ap (λ (p : AddressPairs × List ℕ). p.0) same, ap (λ (p : AddressPairs × List ℕ). p.1) same)

values_short : (pairs : AddressPairs) → values_size address_spelling pairs ≤ 13 * length pairs
values_short [] = omega arith
values_short (p ∷ ps) = omega (arith, address_short p.1, values_short ps)

pub addresses_short : (pairs : AddressPairs) → length pairs < 2 ^ 32 → length (addresses_spelling pairs) ≤ 10 + 17 * length pairs
addresses_short pairs few = omega (arith, map_size address_spelling pairs, uint_narrow (length pairs) few, values_short pairs)

each_has_size : (pairs : AddressPairs) → AllByRecursion (Always {A = Address}) (values_of pairs)
each_has_size [] = tt
each_has_size (p ∷ ps) = (tt, each_has_size ps)

pub addresses_size : (pairs : AddressPairs) → IsMap pairs → MapSizes address_spelling (Always {A = Address}) pairs
addresses_size pairs kept = record { total = omega (arith, addresses_short pairs kept.in_bound, kept.in_bound); each = each_has_size pairs }

pub addresses_within : (peers : List ℕ) (pairs : AddressPairs) → AddressesFit (length peers) pairs → length (addresses_spelling pairs) ≤ 10 + 17 * length peers
addresses_within peers pairs fit = omega (arith, addresses_short pairs fit.small, fit.in_bound)

pub addresses_rising : (few many : ℕ) → few ≤ many → 10 + 17 * few ≤ 10 + 17 * many
addresses_rising few many le = omega arith
