-- The lines of a configuration have one spelling for each value.
use Rattle.std.proofs.Common.{◌≡◌, ℕ, zero, suc, ◌+◌, ◌<◌, ◌≤◌, ◌^◌, ◌==◌, ◌&&◌, Bool, true, false, cond, not, List, [], ◌∷◌, ◌++◌, length, map, decimal, Option, Some, None, refl, sym, ap, subst, arith, nat_lt}
use Rattle.std.specs.Prelude.{codes, IfSome}
use Rattle.std.specs.Int.NonZero.{non_zero_u32_get, non_zero_u64_get}
use Rattle.std.specs.declared.num.NonZeroU32.{NonZeroU32}
use Rattle.std.specs.declared.num.NonZeroU64.{NonZeroU64}
use Rattle.std.proofs.lemmas.Bool.{and_parts, eq-eqb, eqb-true, lt-ltb, ltb-true}
use Rattle.std.proofs.lemmas.Bool.Decides.{nat_tests}
use Rattle.hex.specs.Hex.{IsBytes}
use Rattle.dkg_ceremony.specs.declared.mode.Mode.{Mode}
use Rattle.dkg_ceremony.specs.declared.mode.ModeVersion.{ModeVersion}
use Rattle.dkg_types.specs.declared.addresses.Address.{Address}
use Rattle.dkg_values.specs.Rising.{keys_of}
use Rattle.dkg_text.specs.declared.script.PlayerLine.{PlayerLine}
use Rattle.dkg_text.specs.declared.script.ProbeLine.{ProbeLine}
use Rattle.dkg_reading.specs.Allowed.{Is32, Is64, IsAddress, IsAddressLine, IsKeys, IsPlayerLine, IsProbeLine}
use Rattle.dkg_text.specs.PayloadKinds.{is_info}
use Rattle.dkg_text.specs.Fields.{bytes_field, hex_text, number_field}
use Rattle.dkg_reading.specs.Grammar.{address_line_after, address_line_at, is_above, limit_from, players_after, players_line_at, probe_at, probe_from, version_one}
use Rattle.dkg_reading.specs.Lines.{checked_line_at, line_at}
use Rattle.dkg_reading.specs.Positive.{positive_32, positive_64}
use Rattle.dkg_reading.specs.Rows.{address_row, beside, bytes_of, dash_or, field, four, mode_of, number_below, decimal_of, set_row, two, version_of}
use Rattle.dkg_reading.specs.Spells.{IsFieldText, IsLastRow, IsLine}
use Rattle.dkg_text.specs.Writing.{address_fields, address_line, with_line_feed, mode_number, number_or_dash, numbers_fields, oneshot_line, or_dash, players_line, probe_line}
use Rattle.dkg_reading.proofs.FieldLaws.{bytes_law, mode_law, number_law, number_or_dash_law, version_law as version_field_law}
use Rattle.dkg_reading.proofs.Guards.{if_some, some_is}
use Rattle.dkg_reading.proofs.LineLaws.{HasName, checked_law, line_law, line_named}
use Rattle.dkg_reading.proofs.NonZeros.{is_32, is_64}
use Rattle.dkg_reading.proofs.RowLaws.{address_law, beside_law, field_law, four_law, key_law, last, set_law, two_law}

-- a name without a space or a line feed, by its test
abbrev pub is_plain : List ℕ → Bool
is_plain [] = true
is_plain (b ∷ bs) = not (b == 32) && (not (b == 10) && is_plain bs)

apart : (b c : ℕ) → not (b == c) ≡ true → b ≡ c → ⊥
apart b c is same = let yes : (b == c) ≡ true = eq-eqb b c same in cc

pub plain_name : (text : List ℕ) → is_plain text ≡ true → IsFieldText text
plain_name [] is = tt
plain_name (b ∷ bs) is =
    let one = and_parts (not (b == 32)) (not (b == 10) && is_plain bs) is in
    let two = and_parts (not (b == 10)) (is_plain bs) one.1 in
    ((apart b 32 one.0, apart b 10 two.0), plain_name bs two.1)

-- ONE FIELD

pub number_row : IsLastRow Is64 number_field (field decimal_of)
number_row = last Is64 number_field (field decimal_of) (field_law Is64 decimal decimal_of number_law)

pub number_32_row : IsLastRow Is32 number_field (field (number_below (2 ^ 32)))
number_32_row = last Is32 number_field (field (number_below (2 ^ 32))) (field_law Is32 decimal (number_below (2 ^ 32)) key_law)

pub bytes_row : IsLastRow IsBytes bytes_field (field bytes_of)
bytes_row = last IsBytes bytes_field (field bytes_of) (field_law IsBytes hex_text bytes_of bytes_law)

-- THE LINES THAT EVERY SCRIPT HAS

pub me_law : IsLine Is32 (λ k. with_line_feed (codes "me" ++ number_field k)) (line_at (codes "me") (field (number_below (2 ^ 32))))
me_law = line_law (codes "me") (plain_name (codes "me") refl) Is32 number_field (field (number_below (2 ^ 32))) number_32_row

is_one : (n : ℕ) (x : Unit {0}) → Is64 n → version_one n ≡ Some x → Unit {0} × (1 ≡ n)
is_one n x fit e = let g = if_some (n == 1) (Some tt) x e in (tt, sym (eqb-true n 1 g.0))

pub version_law : IsLine (λ (x : Unit {0}). Unit {0}) (λ x. with_line_feed (codes "dkg" ++ number_field 1)) (checked_line_at (codes "dkg") (field decimal_of) version_one)
version_law =
    checked_law Is64 (λ n. with_line_feed (codes "dkg" ++ number_field n)) (line_at (codes "dkg") (field decimal_of)) (line_law (codes "dkg") (plain_name (codes "dkg") refl) Is64 number_field (field decimal_of) number_row)
    version_one (λ x. Unit {0}) (λ x. 1) is_one (λ x fit. (omega arith, refl))

positive_64_is : (n : ℕ) (x : NonZeroU64) → positive_64 n ≡ Some x → non_zero_u64_get x ≡ n
positive_64_is zero x e = cc e
positive_64_is (suc n) x e = ap non_zero_u64_get (sym (some_is _ x e))

positive_32_is : (n : ℕ) (x : NonZeroU32) → positive_32 n ≡ Some x → non_zero_u32_get x ≡ n
positive_32_is zero x e = cc e
positive_32_is (suc n) x e = ap non_zero_u32_get (sym (some_is _ x e))

pub blocks_law : IsLine (λ x. Is64 (non_zero_u64_get x)) (λ x. with_line_feed (codes "blocks" ++ number_field (non_zero_u64_get x))) (checked_line_at (codes "blocks") (field decimal_of) positive_64)
blocks_law =
    checked_law Is64 (λ n. with_line_feed (codes "blocks" ++ number_field n)) (line_at (codes "blocks") (field decimal_of)) (line_law (codes "blocks") (plain_name (codes "blocks") refl) Is64 number_field (field decimal_of) number_row)
    positive_64 (λ x. Is64 (non_zero_u64_get x)) non_zero_u64_get
    (λ n x fit e. let is = positive_64_is n x e in (subst Is64 (sym is) fit, is))
    (λ x fit. (fit, sym (is_64 x (non_zero_u64_get x) refl)))

limit_is : (n : ℕ) (x : NonZeroU32) → Is32 n → limit_from n ≡ Some x → (non_zero_u32_get x ≤ 2 ^ 30) × (non_zero_u32_get x ≡ n)
limit_is n x fit e = by_case (nat_lt (2 ^ 30) n) refl e
  where
    by_case : (b : Bool) → nat_lt (2 ^ 30) n ≡ b → cond b None (positive_32 n) ≡ Some x → (non_zero_u32_get x ≤ 2 ^ 30) × (non_zero_u32_get x ≡ n)
    by_case true above e = cc e
    by_case false above e =
        let is = positive_32_is n x e in
        let small : n ≤ 2 ^ 30 = at_most above in
        (omega (arith, is, small), is)
      where
        at_most : nat_lt (2 ^ 30) n ≡ false → n ≤ 2 ^ 30
        at_most h = grind (arith, nat_tests)

limit_again : (x : NonZeroU32) → non_zero_u32_get x ≤ 2 ^ 30 → Is32 (non_zero_u32_get x) × (limit_from (non_zero_u32_get x) ≡ Some x)
limit_again x fit =
    let below : nat_lt (2 ^ 30) (non_zero_u32_get x) ≡ false = grind (arith, nat_tests) in
    (omega (arith, fit), rw below (sym (is_32 x (non_zero_u32_get x) refl)))

pub limit_law : IsLine (λ x. non_zero_u32_get x ≤ 2 ^ 30) (λ x. with_line_feed (codes "limit" ++ number_field (non_zero_u32_get x))) (checked_line_at (codes "limit") (field (number_below (2 ^ 32))) limit_from)
limit_law =
    checked_law Is32 (λ n. with_line_feed (codes "limit" ++ number_field n)) (line_at (codes "limit") (field (number_below (2 ^ 32))))
    (line_law (codes "limit") (plain_name (codes "limit") refl) Is32 number_field (field (number_below (2 ^ 32))) number_32_row)
    limit_from (λ x. non_zero_u32_get x ≤ 2 ^ 30) non_zero_u32_get limit_is limit_again

abbrev pub AreModes : Mode × ModeVersion → Type 0
AreModes m = Unit {0} × (m.1.0 < 2)

abbrev pub modes_line : Mode × ModeVersion → List ℕ
modes_line m = with_line_feed (codes "mode" ++ number_field (mode_number m.0) ++ number_field m.1.0)

pub modes_law : IsLine AreModes modes_line (line_at (codes "mode") (two mode_of version_of))
modes_law = line_law (codes "mode") (plain_name (codes "mode") refl) AreModes (λ m. number_field (mode_number m.0) ++ number_field m.1.0) (two mode_of version_of)
    (two_law (λ (m : Mode). Unit {0}) (λ m. decimal (mode_number m)) mode_of mode_law (λ (v : ModeVersion). v.0 < 2) (λ v. decimal v.0) version_of version_field_law)

pub space_law : IsLine IsBytes (λ bytes. with_line_feed (codes "space" ++ bytes_field bytes)) (line_at (codes "space") (field bytes_of))
space_law = line_law (codes "space") (plain_name (codes "space") refl) IsBytes bytes_field (field bytes_of) bytes_row

-- ONE-SHOT PARTICIPANTS

pub oneshot_law : IsLine IsKeys oneshot_line (line_at (codes "oneshot") set_row)
oneshot_law = line_law (codes "oneshot") (plain_name (codes "oneshot") refl) IsKeys numbers_fields set_row set_law

pub oneshot_named : (keys rest : List ℕ) → IsKeys keys → HasName (codes "oneshot") (oneshot_line keys ++ rest)
oneshot_named = line_named (codes "oneshot") (plain_name (codes "oneshot") refl) IsKeys numbers_fields set_row set_law

-- PLAYERS

abbrev players_text : ℕ × List ℕ → List ℕ
players_text p = number_field p.0 ++ numbers_fields p.1

abbrev ArePlayers : ℕ × List ℕ → Type 0
ArePlayers p = Is64 p.0 × IsKeys p.1

players_row : IsLastRow ArePlayers players_text (beside (field decimal_of) set_row)
players_row = beside_law Is64 number_field (field decimal_of) (field_law Is64 decimal decimal_of number_law) IsKeys numbers_fields set_row set_law

abbrev players_back : PlayerLine → ℕ × List ℕ
players_back l = (l.epoch, l.players)

players_to : (done : List PlayerLine) (p : ℕ × List ℕ) (l : PlayerLine) → ArePlayers p → players_after done p ≡ Some l → IsPlayerLine done l × (players_back l ≡ p)
players_to done p l fit e =
    let above = is_above (map (λ (x : PlayerLine). x.epoch) done) p.0 in
    let made : PlayerLine = record { epoch = p.0; players = p.1 } in
    let g = if_some above (Some made) l e in
    let is : IsPlayerLine done made × (players_back made ≡ p) = (record { epoch = fit.0; players = fit.1; above = g.0 }, refl) in
    subst (λ (x : PlayerLine). IsPlayerLine done x × (players_back x ≡ p)) (some_is made l g.1) is

players_from : (done : List PlayerLine) (l : PlayerLine) → IsPlayerLine done l → ArePlayers (players_back l) × (players_after done (players_back l) ≡ Some l)
players_from done l fit = ((fit.epoch, fit.players), rw fit.above refl)

pub players_law : (done : List PlayerLine) → IsLine (IsPlayerLine done) players_line (players_line_at done)
unfolding players_line_at
players_law done =
    checked_law ArePlayers (λ p. with_line_feed (codes "players" ++ players_text p)) (line_at (codes "players") (beside (field decimal_of) set_row))
    (line_law (codes "players") (plain_name (codes "players") refl) ArePlayers players_text (beside (field decimal_of) set_row) players_row)
    (players_after done) (IsPlayerLine done) players_back (players_to done) (players_from done)

pub players_named : (done : List PlayerLine) (l : PlayerLine) (rest : List ℕ) → IsPlayerLine done l → HasName (codes "players") (players_line l ++ rest)
players_named done l rest fit = line_named (codes "players") (plain_name (codes "players") refl) ArePlayers players_text (beside (field decimal_of) set_row) players_row (players_back l) rest (fit.epoch, fit.players)

-- ADDRESSES

abbrev address_text : ℕ × Address → List ℕ
address_text p = number_field p.0 ++ address_fields p.1

abbrev IsReached : ℕ × Address → Type 0
IsReached p = Is32 p.0 × IsAddress p.1

reached_row : IsLastRow IsReached address_text (beside (field (number_below (2 ^ 32))) address_row)
reached_row = beside_law Is32 number_field (field (number_below (2 ^ 32))) (field_law Is32 decimal (number_below (2 ^ 32)) key_law) IsAddress address_fields address_row address_law

address_to : (done : List (ℕ × Address)) (p l : ℕ × Address) → IsReached p → address_line_after done p ≡ Some l → IsAddressLine done l × (l ≡ p)
address_to done p l fit e =
    let above = is_above (keys_of done) p.0 in
    let few = nat_lt (length done + 1) (2 ^ 32) in
    let g = if_some (above && few) (Some p) l e in
    let parts = and_parts above few g.0 in
    let same : p ≡ l = some_is p l g.1 in
    let is : IsAddressLine done p = record { key = fit.0; address = fit.1; above = parts.0; in_bound = ltb-true (length done + 1) (2 ^ 32) parts.1 } in
    (subst (IsAddressLine done) same is, sym same)

address_from : (done : List (ℕ × Address)) (l : ℕ × Address) → IsAddressLine done l → IsReached l × (address_line_after done l ≡ Some l)
address_from done l fit = ((fit.key, fit.address), rw (fit.above, lt-ltb (length done + 1) (2 ^ 32) fit.in_bound) refl)

pub addresses_law : (done : List (ℕ × Address)) → IsLine (IsAddressLine done) address_line (address_line_at done)
unfolding address_line_at
addresses_law done =
    checked_law IsReached (λ p. with_line_feed (codes "address" ++ address_text p)) (line_at (codes "address") (beside (field (number_below (2 ^ 32))) address_row))
    (line_law (codes "address") (plain_name (codes "address") refl) IsReached address_text (beside (field (number_below (2 ^ 32))) address_row) reached_row)
    (address_line_after done) (IsAddressLine done) (λ l. l) (address_to done) (address_from done)

pub address_named : (done : List (ℕ × Address)) (l : ℕ × Address) (rest : List ℕ) → IsAddressLine done l → HasName (codes "address") (address_line l ++ rest)
address_named done l rest fit = line_named (codes "address") (plain_name (codes "address") refl) IsReached address_text (beside (field (number_below (2 ^ 32))) address_row) reached_row l rest (fit.key, fit.address)

-- THE PROBE

abbrev Probed : Type 0
Probed = ℕ × Option ℕ × List ℕ × List ℕ

abbrev probe_text : Probed → List ℕ
probe_text p = number_field p.0 ++ (number_or_dash p.1 ++ (bytes_field p.2 ++ bytes_field p.3))

abbrev IsProbed : Probed → Type 0
IsProbed p = Is64 p.0 × (IfSome p.1 Is64 × (IsBytes p.2 × IsBytes p.3))

probe_row : IsLastRow IsProbed probe_text (four decimal_of (dash_or decimal_of) bytes_of bytes_of)
probe_row = four_law Is64 decimal decimal_of number_law (λ o. IfSome o Is64) (or_dash decimal) (dash_or decimal_of) number_or_dash_law IsBytes hex_text bytes_of bytes_law IsBytes hex_text bytes_of bytes_law

abbrev probe_back : ProbeLine → Probed
probe_back l = (l.checkpoint, l.floor, l.checkpoint_info, l.genesis_info)

probe_to : (addressed : Bool) (p : Probed) (l : ProbeLine) → IsProbed p → probe_from addressed p ≡ Some l → IsProbeLine addressed l × (probe_back l ≡ p)
probe_to addressed p l fit e =
    let made : ProbeLine = record { checkpoint = p.0; floor = p.1; checkpoint_info = p.2; genesis_info = p.3 } in
    let g = if_some (is_info addressed p.2 && is_info addressed p.3) (Some made) l e in
    let parts = and_parts (is_info addressed p.2) (is_info addressed p.3) g.0 in
    let is : IsProbeLine addressed made × (probe_back made ≡ p) =
    (record { checkpoint = fit.0; floor = fit.1.0; checkpoint_bytes = fit.1.1.0; genesis_bytes = fit.1.1.1; checkpoint_info = parts.0; genesis_info = parts.1 }, refl) in
    subst (λ (x : ProbeLine). IsProbeLine addressed x × (probe_back x ≡ p)) (some_is made l g.1) is

probe_of : (addressed : Bool) (l : ProbeLine) → IsProbeLine addressed l → IsProbed (probe_back l) × (probe_from addressed (probe_back l) ≡ Some l)
probe_of addressed l fit = ((fit.checkpoint, (fit.floor, (fit.checkpoint_bytes, fit.genesis_bytes))), rw (fit.checkpoint_info, fit.genesis_info) refl)

pub probes_law : (addressed : Bool) → IsLine (IsProbeLine addressed) probe_line (probe_at addressed)
unfolding probe_at
probes_law addressed =
    checked_law IsProbed (λ p. with_line_feed (codes "probe" ++ probe_text p)) (line_at (codes "probe") (four decimal_of (dash_or decimal_of) bytes_of bytes_of))
    (line_law (codes "probe") (plain_name (codes "probe") refl) IsProbed probe_text (four decimal_of (dash_or decimal_of) bytes_of bytes_of) probe_row)
    (probe_from addressed) (IsProbeLine addressed) probe_back (probe_to addressed) (probe_of addressed)

pub probe_named : (addressed : Bool) (l : ProbeLine) (rest : List ℕ) → IsProbeLine addressed l → HasName (codes "probe") (probe_line l ++ rest)
probe_named addressed l rest fit =
    line_named (codes "probe") (plain_name (codes "probe") refl) IsProbed probe_text (four decimal_of (dash_or decimal_of) bytes_of bytes_of) probe_row (probe_back l) rest (fit.checkpoint, (fit.floor, (fit.checkpoint_bytes, fit.genesis_bytes)))
