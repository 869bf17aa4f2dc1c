use Rattle.std.proofs.Common.{map, eqb, replicate, bit_and, ap, ◌∙◌, arith, w64}
use lib.Count.{ones}
use lib.Lanes.{zip2, chunk, mask_l}
use Rattle.std.proofs.lemmas.Simd.{length-chunk, length-zip2, zip2_splat, map-map, bitmask_splat, ones-mask_l}
use Rattle.mask_lanes.specs.Words.{contains_all}
use Rattle.mask_lanes.proofs.count.count_at.Goals as goal

pub returns : goal.returns
returns c =
    let mask = c.args.mask in
    let words = chunk c.args.at 8 c.args.masks.now in
    let long = length-chunk c.args.at 8 c.args.masks.now c.requires in
    let common = zip2_splat bit_and words 8 mask long in
    let long_common = length-zip2 bit_and words (replicate 8 mask) long in
    ap ones (bitmask_splat w64 eqb (zip2 bit_and words (replicate 8 mask)) 8 mask (long_common ∙ long) (omega arith)
    ∙ ap (λ xs. mask_l (map (λ x. eqb x mask) xs)) common
    ∙ ap mask_l (map-map (λ x. eqb x mask) (λ x. bit_and x mask) words))
    ∙ ones-mask_l (contains_all mask) words
