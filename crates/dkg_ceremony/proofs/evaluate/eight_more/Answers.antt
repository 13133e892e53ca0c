use Rattle.std.proofs.Common.{◌≡◌, ◌+◌, get_or, sym, ◌∙◌, arith}
use Rattle.dkg_ceremony.specs.PolynomialLaws.{read_there, value_eight}
use Rattle.dkg_ceremony.proofs.evaluate.eight_more.Goals as goal

pub returns-clause-value : goal.returns-clause-value
returns-clause-value c = λ point is behind.
    let of_0 : c.from.result ≡ get_or c.args.elements.now c.args.i 0 = c.from.ensures ∙ (c.get.ensures.same ∙ (c.index-elements-i.is ∙ read_there c.args.elements.now c.args.i c.index-elements-i.result 0 (omega (arith, c.requires.there)))) in
    let of_1 : c.from-2.result ≡ get_or c.args.elements.now (c.args.i + 1) 0 = c.from-2.ensures ∙ (c.get-2.ensures.same ∙ (c.index-elements-i-2.is ∙ read_there c.args.elements.now (c.args.i + 1) c.index-elements-i-2.result 0 (omega (arith, c.requires.there)))) in
    let of_2 : c.from-3.result ≡ get_or c.args.elements.now (c.args.i + 2) 0 = c.from-3.ensures ∙ (c.get-3.ensures.same ∙ (c.index-elements-i-3.is ∙ read_there c.args.elements.now (c.args.i + 2) c.index-elements-i-3.result 0 (omega (arith, c.requires.there)))) in
    let of_3 : c.from-4.result ≡ get_or c.args.elements.now (c.args.i + 3) 0 = c.from-4.ensures ∙ (c.get-4.ensures.same ∙ (c.index-elements-i-4.is ∙ read_there c.args.elements.now (c.args.i + 3) c.index-elements-i-4.result 0 (omega (arith, c.requires.there)))) in
    let of_4 : c.from-5.result ≡ get_or c.args.elements.now (c.args.i + 4) 0 = c.from-5.ensures ∙ (c.get-5.ensures.same ∙ (c.index-elements-i-5.is ∙ read_there c.args.elements.now (c.args.i + 4) c.index-elements-i-5.result 0 (omega (arith, c.requires.there)))) in
    let of_5 : c.from-6.result ≡ get_or c.args.elements.now (c.args.i + 5) 0 = c.from-6.ensures ∙ (c.get-6.ensures.same ∙ (c.index-elements-i-6.is ∙ read_there c.args.elements.now (c.args.i + 5) c.index-elements-i-6.result 0 (omega (arith, c.requires.there)))) in
    let of_6 : c.from-7.result ≡ get_or c.args.elements.now (c.args.i + 6) 0 = c.from-7.ensures ∙ (c.get-7.ensures.same ∙ (c.index-elements-i-7.is ∙ read_there c.args.elements.now (c.args.i + 6) c.index-elements-i-7.result 0 (omega (arith, c.requires.there)))) in
    let of_7 : c.from-8.result ≡ get_or c.args.elements.now (c.args.i + 7) 0 = c.from-8.ensures ∙ (c.get-8.ensures.same ∙ (c.index-elements-i-8.is ∙ read_there c.args.elements.now (c.args.i + 7) c.index-elements-i-8.result 0 (omega (arith, c.requires.there)))) in
    rw (is, behind, of_0, of_1, of_2, of_3, of_4, of_5, of_6, of_7) (sym (value_eight c.args.elements.now c.args.i point c.requires.there))
