-- What a cut call leaves of a secret store in memory, by its pick.
use Rattle.std.specs.Prelude.{ℕ, ◌+◌, ◌/◌, ◌%◌, ◌^◌, ◌==◌, nat_lt, if◌then◌else◌, Bool, List, [], ◌∷◌, map, filter, length}
use Rattle.std.specs.FinMap.{FinMap, entries, remove}
use Rattle.std.specs.declared.cmp.Ordering.{Ordering}
use Rattle.dkg_secrets.specs.Secrets.{Secrets, after}
use Rattle.dkg_secrets.specs.declared.secrets.SecretOp.{SecretOp}
use Rattle.dkg_secrets.specs.declared.secrets.SecretOp.TheVariants.{PutShare, PutSeed, PutDealing, Prune}

-- the bit of a pick at an index, one of 64 by turns, is 0
abbrev pub is_clear : ℕ → ℕ → Bool
is_clear pick index = (pick / 2 ^ (index % 64)) % 2 == 0

-- Without those of these keys at whose indexes the bits are 0. The first of them has this index.
abbrev pub cleared : {K X : Type 0} {R : K → K → Ordering} → ℕ → ℕ → List K → FinMap R X → FinMap R X
cleared pick index [] m = m
cleared pick index (k ∷ ks) m = cleared pick (index + 1) ks (if is_clear pick index then remove m k else m)

-- the keys of epochs below a minimum, rising
abbrev pub keys_below : {K X : Type 0} {R : K → K → Ordering} → (K → ℕ) → ℕ → FinMap R X → List K
keys_below epoch_of min m = map (λ e. e.0) (filter (λ e. nat_lt (epoch_of e.0) min) (entries m))

-- The keys below the minimum have their indexes in one row: shares, seeds, private halves.
abbrev pub pruned_by : ℕ → ℕ → Secrets → Secrets
pruned_by min pick s =
    let shares = keys_below (λ (epoch : ℕ). epoch) min s.shares in
    let seeds = keys_below (λ (epoch : ℕ). epoch) min s.seeds in
    let privates = keys_below (λ (key : ℕ × ℕ). key.0) min s.privates in
    record { shares = cleared pick 0 shares s.shares; seeds = cleared pick (length shares) seeds s.seeds; privates = cleared pick (length shares + length seeds) privates s.privates }

-- a put is done where the pick is even
abbrev pub after_cut : SecretOp → ℕ → Secrets → Secrets
after_cut (Prune min) pick s = pruned_by min pick s
after_cut (PutShare epoch share) pick s = if (pick % 2 == 0) then after (PutShare epoch share) s else s
after_cut (PutSeed epoch seed) pick s = if (pick % 2 == 0) then after (PutSeed epoch seed) s else s
after_cut (PutDealing epoch dealer private) pick s = if (pick % 2 == 0) then after (PutDealing epoch dealer private) s else s
