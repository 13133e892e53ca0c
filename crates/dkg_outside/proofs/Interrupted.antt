-- What reads and writes that were made again do to known bytes.
use Rattle.std.proofs.Common.{◌≡◌, ℕ, List, [], ◌++◌, Option, Some, None, sym, ap, ◌∙◌, append-nil, take}
use Rattle.std.specs.Io.KnownBytes.{Keeps, Appends, Consumes}

pub kept_consumes : (a b c : Option (List ℕ)) (bs : List ℕ) → Keeps a b → Consumes b c bs → Consumes a c bs
kept_consumes None b c bs p q = tt
kept_consumes (Some x) None c bs p q = absurd p
kept_consumes (Some x) (Some y) None bs p q = absurd q
kept_consumes (Some x) (Some y) (Some z) bs p q = sym p ∙ q

pub kept_appends : (a b c : Option (List ℕ)) (bs : List ℕ) → Keeps a b → Appends b c bs → Appends a c bs
kept_appends None b c bs p q = tt
kept_appends (Some x) None c bs p q = absurd p
kept_appends (Some x) (Some y) None bs p q = absurd q
kept_appends (Some x) (Some y) (Some z) bs p q = q ∙ ap (λ l. l ++ bs) p

pub kept_twice : (a b c : Option (List ℕ)) → Keeps a b → Keeps b c → Keeps a c
kept_twice None b c p q = tt
kept_twice (Some x) None c p q = absurd p
kept_twice (Some x) (Some y) None p q = absurd q
kept_twice (Some x) (Some y) (Some z) p q = q ∙ p

pub nothing_appended : (a b c : Option (List ℕ)) (bs : List ℕ) (n : ℕ) → Keeps a b → Appends b c (take n bs) → n ≡ 0 → Keeps a c
nothing_appended None b c bs n p q e = tt
nothing_appended (Some x) None c bs n p q e = absurd p
nothing_appended (Some x) (Some y) None bs n p q e = absurd q
nothing_appended (Some x) (Some y) (Some z) bs n p q e = q ∙ ap (λ k. y ++ take k bs) e ∙ append-nil y ∙ p
