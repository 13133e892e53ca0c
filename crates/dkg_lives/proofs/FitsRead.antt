-- What a peer's message brings fits a record, whatever its bytes are: a reading tests what a record asks.
use Rattle.std.proofs.Common.{◌≡◌, ℕ, zero, suc, ◌-◌, ◌^◌, ◌<◌, ◌≤◌, true, cond, ltb, leb, ◌&&◌, List, [], ◌∷◌, length, take, drop, Ok, Err, refl, ap, subst, arith}
use Rattle.std.specs.List.{AllByRecursion}
use Rattle.std.specs.Int.{w16}
use Rattle.std.proofs.lemmas.Bool.{ltb-true, ltb-false}
use Rattle.std.proofs.lemmas.Bool.Decides.{nat_tests}
use Rattle.std.proofs.lemmas.List.{length-take}
use Rattle.dkg_values.specs.declared.codec.CodecError.TheVariants.{EndOfBuffer, InvalidEnum, InvalidLength, Invalid}
use Rattle.dkg_values.specs.declared.codec.What.TheVariants as what
use Rattle.dkg_values.specs.Bytes.{byte_at, bytes_at}
use Rattle.dkg_values.specs.Codec.{Reading, ◌>>=◌, many_at, number_at, whole}
use Rattle.dkg_values.specs.Grammar.{bind_ok, guard_ok, ok_is}
use Rattle.dkg_values.specs.Joined.{beside_at, pair}
use Rattle.dkg_values.specs.ListGrammar.{guard_past}
use Rattle.dkg_values.specs.Lists.{PublicFits, count_at, element_at, public_at}
use Rattle.dkg_values.specs.Uint.{uint_at}
use Rattle.dkg_types.specs.MessageCodes.{ack_message, dealer_message, message_after, message_at}
use Rattle.dkg_types.specs.declared.message.Message.{Message}
use Rattle.dkg_types.specs.declared.message.Message.TheVariants.{Dealer, Ack}
use Rattle.dkg_store.specs.Events.{no_limit}
use Rattle.dkg_core.specs.Fixed.{Fixed}
use Rattle.dkg_core.specs.Heard.{Fits}

many_read : {A : Type 0} (P : A → Type 0) (read : List ℕ → Reading A) → ((bytes : List ℕ) (v : A) (rest : List ℕ) → read bytes ≡ Ok (v, rest) → P v) → (n : ℕ) (bytes : List ℕ) (xs : List A) (rest : List ℕ)
    → many_at read n bytes ≡ Ok (xs, rest) → (length xs ≡ n) × AllByRecursion P xs
unfolding many_at
many_read {A} P read each zero bytes xs rest e =
    let none : List A = [] in
    let made : (length none ≡ 0) × AllByRecursion P none = (refl, tt) in
    subst (λ (x : List A × List ℕ). (length x.0 ≡ 0) × AllByRecursion P x.0) (ok_is (none, bytes) (xs, rest) e) made
many_read {A} P read each (suc n) bytes xs rest e =
    let b = bind_ok (read bytes) (λ first. many_at read n first.1 >>= λ others. Ok (first.0 ∷ others.0, others.1)) (xs, rest) e in
    let o = bind_ok (many_at read n b.0.1) (λ others. Ok (b.0.0 ∷ others.0, others.1)) (xs, rest) b.2 in
    let later = many_read P read each n b.0.1 o.0.0 o.0.1 o.1 in
    let made : (length (b.0.0 ∷ o.0.0) ≡ suc n) × AllByRecursion P (b.0.0 ∷ o.0.0) = (ap suc later.0, (each bytes b.0.0 b.0.1 b.1, later.1)) in
    subst (λ (x : List A × List ℕ). (length x.0 ≡ suc n) × AllByRecursion P x.0) (ok_is (b.0.0 ∷ o.0.0, o.0.1) (xs, rest) o.2) made

element_read : (bytes : List ℕ) (v : ℕ) (rest : List ℕ) → element_at bytes ≡ Ok (v, rest) → v < 65521
element_read bytes v rest e =
    let b = bind_ok (number_at w16 bytes) (λ n. cond {A = Reading ℕ} (ltb n.0 65521) (Ok n) (Err (Invalid what.Element))) (v, rest) e in
    let g = guard_ok (ltb b.0.0 65521) (Invalid what.Element) b.0 (v, rest) b.2 in
    subst (λ (x : ℕ × List ℕ). x.0 < 65521) g.1 (ltb-true b.0.0 65521 g.0)

within : (least b most : ℕ) → (leb least b && leb b most) ≡ true → (least ≤ b) × (b ≤ most)
within least b most e = grind (arith, nat_tests)

count_read : (least most : ℕ) (bytes : List ℕ) (n : ℕ) (rest : List ℕ) → count_at least most bytes ≡ Ok (n, rest) → (least ≤ n) × (n ≤ most)
count_read least most bytes n rest e =
    let b = bind_ok (uint_at (2 ^ 32 - 1) bytes) (λ n. cond {A = Reading ℕ} (leb least n.0 && leb n.0 most) (Ok n) (Err (InvalidLength n.0 most))) (n, rest) e in
    let g = guard_ok (leb least b.0.0 && leb b.0.0 most) (InvalidLength b.0.0 most) b.0 (n, rest) b.2 in
    subst (λ (x : ℕ × List ℕ). (least ≤ x.0) × (x.0 ≤ most)) g.1 (within least b.0.0 most g.0)

public_read : (most : ℕ) (bytes xs rest : List ℕ) → most ≤ 2 ^ 30 → public_at most bytes ≡ Ok (xs, rest) → PublicFits no_limit xs
public_read most bytes xs rest few e =
    let b = bind_ok (count_at 1 most bytes) (λ n. many_at element_at n.0 n.1) (xs, rest) e in
    let n = count_read 1 most bytes b.0.0 b.0.1 b.1 in
    let many = many_read (λ e. e < 65521) element_at element_read b.0.0 b.0.1 xs rest b.2 in
    let is : length xs ≡ b.0.0 = many.0 in
    let low : 1 ≤ b.0.0 = n.0 in
    let high : b.0.0 ≤ most = n.1 in
    record { some = omega (arith, is, low); in_bound = omega (arith, is, high, few); small = omega (arith, is, high, few); elements = many.1 }

-- what of a message is recorded
abbrev pub MayBeRecorded : Message → Type 0
MayBeRecorded (Dealer public private) = PublicFits no_limit public
MayBeRecorded (Ack ack) = length ack ≡ 8

by_tag : (most tag : ℕ) (bytes : List ℕ) (m : Message) (rest : List ℕ) → most ≤ 2 ^ 30 → message_after most tag bytes ≡ Ok (m, rest) → MayBeRecorded m
unfolding message_after
by_tag most zero bytes m rest few e =
    let a = bind_ok (beside_at (public_at most) element_at bytes) (λ a. Ok (dealer_message a.0, a.1)) (m, rest) e in
    let b = bind_ok (public_at most bytes) (λ p. element_at p.1 >>= λ q. Ok (pair {A = List ℕ} {B = ℕ} p.0 q.0, q.1)) a.0 a.1 in
    let o = bind_ok (element_at b.0.1) (λ q. Ok (pair {A = List ℕ} {B = ℕ} b.0.0 q.0, q.1)) a.0 b.2 in
    let fits : PublicFits no_limit b.0.0 = public_read most bytes b.0.0 b.0.1 few b.1 in
    let halves : (List ℕ × ℕ) × List ℕ = ((b.0.0, o.0.0), o.0.1) in
    let made : PublicFits no_limit a.0.0.0 = subst (λ (x : (List ℕ × ℕ) × List ℕ). PublicFits no_limit x.0.0) (ok_is halves a.0 o.2) fits in
    let before : Message × List ℕ = (dealer_message a.0.0, a.0.1) in
    let read : Message × List ℕ = (m, rest) in
    subst (λ (x : Message × List ℕ). MayBeRecorded x.0) (ok_is before read a.2) made
by_tag most (suc zero) bytes m rest few e =
    let a = bind_ok (bytes_at 8 bytes) (λ a. Ok (ack_message a.0, a.1)) (m, rest) e in
    let g = guard_past (ltb (length bytes) 8) EndOfBuffer (take 8 bytes, drop 8 bytes) a.0 a.1 in
    let long : 8 ≤ length bytes = ltb-false (length bytes) 8 g.0 in
    let made : length a.0.0 ≡ 8 = subst (λ (x : List ℕ × List ℕ). length x.0 ≡ 8) g.1 (let taken = length-take 8 bytes in omega (arith, taken, long)) in
    let before : Message × List ℕ = (ack_message a.0.0, a.0.1) in
    let read : Message × List ℕ = (m, rest) in
    subst (λ (x : Message × List ℕ). MayBeRecorded x.0) (ok_is before read a.2) made
by_tag most (suc (suc tag)) bytes m rest few e = absurd (never e)
  where
    never : ◌≡◌ {A = Reading Message} (Err (InvalidEnum (suc (suc tag)))) (Ok (m, rest)) → ⊥
    never e = cc

whole_is : {A : Type 0} (reading : Reading A) (v : A) → whole reading ≡ Ok v → reading ≡ Ok (v, [])
whole_is (Ok (w, [])) v e = ap (λ (x : _). Ok (x, [])) (ok_is w v e)
whole_is (Ok (w, b ∷ bs)) v e = absurd cc
whole_is (Err f) v e = absurd cc

message_read : (most : ℕ) (bytes : List ℕ) (m : Message) → most ≤ 2 ^ 30 → whole (message_at most bytes) ≡ Ok m → MayBeRecorded m
message_read most bytes m few e =
    let b = bind_ok (byte_at bytes) (λ tag. message_after most tag.0 tag.1) (m, []) (whole_is (message_at most bytes) m e) in
    by_tag most b.0.0 b.0.1 m [] few b.2

pub message_fits : {Dir : Type 0} (c : Fixed Dir) (from : ℕ) (bytes : List ℕ) → c.limit ≤ 2 ^ 30 → from < 2 ^ 32 → Fits c (from, bytes)
message_fits c from bytes few small =
    (λ public private e. record { one = small; other = message_read c.limit bytes (Dealer public private) few e }, λ ack e. record { one = small; other = message_read c.limit bytes (Ack ack) few e })
