-- One entry more of a tally.
use Rattle.std.proofs.Common.{◌≡◌, ℕ, ◌+◌, ◌<◌, List, [], ◌∷◌, ◌++◌, length, take, get_or, ap, arith}
use Rattle.std.proofs.lemmas.List.{take_more}
use Rattle.dkg_infos.specs.declared.entry.Entry.{Entry}
use Rattle.dkg_text.specs.declared.tallies.Item.{Item}
use Rattle.dkg_text.specs.Summary.{adds, tally}

tally-append : (item : Item) (xs ys : List Entry) → tally item (xs ++ ys) ≡ tally item xs + tally item ys
tally-append item [] ys = omega arith
tally-append item (x ∷ xs) ys = (let more = tally-append item xs ys in omega (arith, more))

pub one_more : (item : Item) (entries : List Entry) (i : ℕ) (d : Entry) → i < length entries → tally item (take (i + 1) entries) ≡ tally item (take i entries) + adds item (get_or entries i d)
one_more item entries i d below =
    let next = ap (tally item) (take_more entries i d below) in
    let sum = tally-append item (take i entries) (get_or entries i d ∷ []) in
    omega (arith, next, sum)
