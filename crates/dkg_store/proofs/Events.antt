-- What is written as an event is read as it, under any limit that it is within.
use Rattle.std.proofs.Common.{◌≡◌, ℕ, zero, suc, ◌≤◌, ◌^◌, ◌-◌, nat_le, Bool, true, List, [], ◌∷◌, Ok, Err, sym, ap, ◌∙◌, arith}
use Rattle.std.specs.Prelude.{◌&&◌, if◌then◌else◌}
use Rattle.std.specs.Int.{w32}
use Rattle.std.proofs.lemmas.List.{append-nil}
use Rattle.std.proofs.lemmas.Bool.Decides.{nat_tests}
use Rattle.dkg_values.specs.Bytes.{byte_at, bytes_at}
use Rattle.dkg_values.specs.Codec.{Reading, ◌>>=◌, number_at, whole, many_at}
use Rattle.dkg_values.specs.Grammar.{bind_ok, guard_ok, ok_is}
use Rattle.dkg_values.specs.Joined.{then_at, beside_at, seen_at, pair}
use Rattle.dkg_values.specs.Lists.{public_at, count_at, element_at}
use Rattle.dkg_values.specs.Uint.{uint_at}
use Rattle.dkg_values.specs.declared.codec.CodecError.TheVariants.{InvalidLength}
use Rattle.dkg_ceremony.specs.LogEntries.{entry_at, entries_at}
use Rattle.dkg_ceremony.specs.Logs.{log_at, log_from}
use Rattle.dkg_store.specs.declared.event.Event.{Event}
use Rattle.dkg_store.specs.Events.{event_after, event_at, event_spelling, EventFits, event_grammar, dealing_event, ack_event, log_event, log_at_event, placed_log_at}

pub read_again : (most : ℕ) (e : Event) → EventFits most e → event_at most (event_spelling e) ≡ Ok (e, [])
read_again most e fits = ap (event_at most) (sym (append-nil (event_spelling e))) ∙ (event_grammar most).again e [] fits

-- what one reading gives another gives too
abbrev Within : {A : Type 0} → (List ℕ → Reading A) → (List ℕ → Reading A) → Type 0
Within {A} read wide = (bytes : List ℕ) (v : A × List ℕ) → read bytes ≡ Ok v → wide bytes ≡ Ok v

itself : {A : Type 0} (read : List ℕ → Reading A) → Within read read
itself read bytes v e = e

then_within : {A B C : Type 0} (read wide : List ℕ → Reading A) (next after : A → List ℕ → Reading B) (make : A → B → C) → Within read wide → ((a : A) → Within (next a) (after a)) → Within (then_at read next make) (then_at wide after make)
then_within {A} {B} {C} read wide next after make first second bytes v e =
    let a = bind_ok (read bytes) (λ a. next a.0 a.1 >>= λ b. Ok (make a.0 b.0, b.1)) v e in
    let b = bind_ok (next a.0.0 a.0.1) (λ b. Ok (make a.0.0 b.0, b.1)) v a.2 in
    ap (λ (r : Reading A). r >>= λ x. after x.0 x.1 >>= λ y. Ok (make x.0 y.0, y.1)) (first bytes a.0 a.1)
    ∙ ap (λ (r : Reading B). r >>= λ y. Ok (make a.0.0 y.0, y.1)) (second a.0.0 a.0.1 b.0 b.1)
    ∙ b.2

beside_within : {A B : Type 0} (read wide : List ℕ → Reading A) (next after : List ℕ → Reading B) → Within read wide → Within next after → Within (beside_at read next) (beside_at wide after)
beside_within {A} {B} read wide next after first second = then_within read wide (λ _. next) (λ _. after) (pair {A = A} {B = B}) first (λ _. second)

seen_within : {A B : Type 0} (make : A → B) (read wide : List ℕ → Reading A) → Within read wide → Within (seen_at make read) (seen_at make wide)
seen_within {A} {B} make read wide first bytes v e =
    let a = bind_ok (read bytes) (λ a. Ok (make a.0, a.1)) v e in
    ap (λ (r : Reading A). r >>= λ x. Ok (make x.0, x.1)) (first bytes a.0 a.1) ∙ a.2

tests : (least x m n : ℕ) → m ≤ n → (nat_le least x && nat_le x m) ≡ true → (nat_le least x && nat_le x n) ≡ true
tests least x m n le e = grind (arith, nat_tests)

count_within : (least m n : ℕ) → m ≤ n → Within (count_at least m) (count_at least n)
count_within least m n le bytes v e =
    let b = bind_ok (uint_at (2 ^ 32 - 1) bytes) (λ x. if nat_le least x.0 && nat_le x.0 m then Ok x else Err (InvalidLength x.0 m)) v e in
    let g = guard_ok (nat_le least b.0.0 && nat_le b.0.0 m) (InvalidLength b.0.0 m) b.0 v b.2 in
    ap (λ (r : Reading ℕ). r >>= λ x. if nat_le least x.0 && nat_le x.0 n then Ok x else Err (InvalidLength x.0 n)) b.1
    ∙ ap (λ (t : Bool). if t then Ok b.0 else Err (InvalidLength b.0.0 n)) (tests least b.0.0 m n le g.0)
    ∙ ap (λ (x : ℕ × List ℕ). Ok x) g.1

counted_within : {A : Type 0} (least m n : ℕ) (next : ℕ × List ℕ → Reading A) → m ≤ n → Within (λ bytes. count_at least m bytes >>= next) (λ bytes. count_at least n bytes >>= next)
counted_within least m n next le bytes v e =
    let b = bind_ok (count_at least m bytes) next v e in
    ap (λ (r : Reading ℕ). r >>= next) (count_within least m n le bytes b.0 b.1) ∙ b.2

public_within : (m n : ℕ) → m ≤ n → Within (public_at m) (public_at n)
public_within m n le = counted_within 1 m n (λ x. many_at element_at x.0 x.1) le

log_within : (m n : ℕ) → m ≤ n → Within (log_at m) (log_at n)
log_within m n le =
    seen_within log_from (beside_at (public_at m) (entries_at m)) (beside_at (public_at n) (entries_at n))
    (beside_within (public_at m) (public_at n) (entries_at m) (entries_at n) (public_within m n le) (counted_within 0 m n (λ x. many_at entry_at x.0 x.1) le))

after_within : (m n kind : ℕ) → m ≤ n → Within (event_after m kind) (event_after n kind)
unfolding event_after
after_within m n zero le =
    seen_within dealing_event (beside_at (number_at w32) (public_at m)) (beside_at (number_at w32) (public_at n))
    (beside_within (number_at w32) (number_at w32) (public_at m) (public_at n) (itself (number_at w32)) (public_within m n le))
after_within m n (suc zero) le = itself (seen_at ack_event (beside_at (number_at w32) (bytes_at 8)))
after_within m n (suc (suc zero)) le =
    seen_within log_event (beside_at (number_at w32) (log_at m)) (beside_at (number_at w32) (log_at n))
    (beside_within (number_at w32) (number_at w32) (log_at m) (log_at n) (itself (number_at w32)) (log_within m n le))
after_within m n (suc (suc (suc zero))) le =
    seen_within log_at_event (beside_at (number_at w32) (placed_log_at m)) (beside_at (number_at w32) (placed_log_at n))
    (beside_within (number_at w32) (number_at w32) (placed_log_at m) (placed_log_at n) (itself (number_at w32))
    (beside_within (uint_at (2 ^ 64 - 1)) (uint_at (2 ^ 64 - 1)) (log_at m) (log_at n) (itself (uint_at (2 ^ 64 - 1))) (log_within m n le)))
after_within m n (suc (suc (suc (suc kind)))) le = λ bytes v e. absurd cc

event_within : (m n : ℕ) → m ≤ n → Within (event_at m) (event_at n)
event_within m n le bytes v e =
    let b = bind_ok (byte_at bytes) (λ kind. event_after m kind.0 kind.1) v e in
    ap (λ (r : Reading ℕ). r >>= λ kind. event_after n kind.0 kind.1) b.1 ∙ after_within m n b.0.0 le b.0.1 v b.2

whole_is : {A : Type 0} (reading : Reading A) (v : A) → whole reading ≡ Ok v → reading ≡ Ok (v, [])
whole_is (Ok (w, [])) v e = ap (λ (x : _). Ok (x, [])) (ok_is w v e)
whole_is (Ok (w, b ∷ bs)) v e = absurd cc
whole_is (Err f) v e = absurd cc

-- what is an event within a limit is the same event without
pub wider : (m n : ℕ) → m ≤ n → (bytes : List ℕ) (v : Event) → whole (event_at m bytes) ≡ Ok v → whole (event_at n bytes) ≡ Ok v
wider m n le bytes v e = ap whole (event_within m n le bytes (v, []) (whole_is (event_at m bytes) v e))
