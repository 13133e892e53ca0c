-- Messages as bytes.
use Rattle.std.proofs.Common.{◌≡◌, ℕ, zero, suc, ◌<◌, List, ◌++◌, Err, refl}
use Rattle.std.specs.Int.{w16, to_be_bytes}
use Rattle.dkg_values.specs.declared.codec.CodecError.TheVariants.{InvalidEnum}
use Rattle.dkg_values.specs.Bytes.{bytes_at, bytes_grammar, HasTag, tagged, tagged_at, tagged_grammar}
use Rattle.dkg_values.specs.Codec.{Reading, IsGrammar}
use Rattle.dkg_values.specs.Joined.{beside_at, beside_grammar, BothFit, both_spelled, seen_at}
use Rattle.dkg_values.specs.Lists.{element_at, public_at, public_spelling, PublicFits}
use Rattle.dkg_values.specs.ListGrammar.{element_grammar, public_grammar}
use Rattle.dkg_ceremony.specs.LogEntries.{IsMark}
use Rattle.dkg_types.specs.declared.message.Message.{Message}
use Rattle.dkg_types.specs.declared.message.Message.TheVariants.{Dealer, Ack}
use Rattle.dkg_types.specs.Variants.{MadeOf, variant_grammar, none_grammar}

abbrev pub message_tag : Message → ℕ
message_tag (Dealer public private) = 0
message_tag (Ack ack) = 1

abbrev pub message_body : Message → List ℕ
message_body (Dealer public private) = public_spelling public ++ to_be_bytes w16 private
message_body (Ack ack) = ack

abbrev pub message_spelling : Message → List ℕ
message_spelling = tagged message_tag message_body

-- two halves, the public one within the limit
abbrev pub HalvesFit : ℕ → List ℕ × ℕ → Type 0
HalvesFit most = BothFit (PublicFits most) (λ n. n < 65521)

abbrev pub MessageFits : ℕ → Message → Type 0
MessageFits most (Dealer public private) = HalvesFit most (public, private)
MessageFits most (Ack ack) = IsMark ack

abbrev pub dealer_message : List ℕ × ℕ → Message
dealer_message p = Dealer p.0 p.1

abbrev pub ack_message : List ℕ → Message
ack_message ack = Ack ack

unfoldable pub message_after : ℕ → ℕ → List ℕ → Reading Message
message_after most zero = seen_at dealer_message (beside_at (public_at most) element_at)
message_after most (suc zero) = seen_at ack_message (bytes_at 8)
message_after most (suc (suc tag)) = λ _. Err (InvalidEnum (suc (suc tag)))

abbrev pub message_at : ℕ → List ℕ → Reading Message
message_at most = tagged_at (message_after most)

is_dealer : (most : ℕ) (m : Message) → MessageFits most m → message_tag m ≡ 0 → MadeOf (HalvesFit most) dealer_message m
is_dealer most (Dealer public private) fit e = record { of = (public, private); fit = fit; is = refl }
is_dealer most (Ack ack) fit e = absurd cc

is_ack : (most : ℕ) (m : Message) → MessageFits most m → message_tag m ≡ 1 → MadeOf IsMark ack_message m
is_ack most (Dealer public private) fit e = absurd cc
is_ack most (Ack ack) fit e = record { of = ack; fit = fit; is = refl }

neither : (tag : ℕ) (m : Message) → message_tag m ≡ suc (suc tag) → ⊥
neither tag (Dealer public private) e = cc
neither tag (Ack ack) e = cc

after_grammar : (most tag : ℕ) → IsGrammar (HasTag (MessageFits most) message_tag tag) message_body (message_after most tag)
unfolding message_after
after_grammar most zero =
    let halves = beside_grammar (PublicFits most) public_spelling (public_at most) (λ n. n < 65521) (to_be_bytes w16) element_at (public_grammar most) element_grammar in
    variant_grammar (HalvesFit most) (both_spelled public_spelling (to_be_bytes w16)) (beside_at (public_at most) element_at) dealer_message (MessageFits most) message_tag message_body 0 halves
    (record { there = λ a fit. fit; tag_is = λ a. refl; body_is = λ a. refl; back = is_dealer most })
after_grammar most (suc zero) =
    variant_grammar IsMark (λ (bytes : List ℕ). bytes) (bytes_at 8) ack_message (MessageFits most) message_tag message_body 1 (bytes_grammar 8)
    (record { there = λ a fit. fit; tag_is = λ a. refl; body_is = λ a. refl; back = is_ack most })
after_grammar most (suc (suc tag)) = none_grammar (MessageFits most) message_tag message_body (suc (suc tag)) (InvalidEnum (suc (suc tag))) (neither tag)

pub message_grammar : (most : ℕ) → IsGrammar (MessageFits most) message_spelling (message_at most)
message_grammar most = tagged_grammar (MessageFits most) message_tag message_body (message_after most) (after_grammar most)
