use Rattle.std.proofs.Common.{◌≡◌, ◌∙◌, ◌++◌, ◌∷◌, [], ◌-◌, ◌+◌, ◌*◌, suc, ap, arith, drop, sym}
use Rattle.std.proofs.lemmas.List.{append_assoc}
use Rattle.point_views.specs.Counts.{counts_in}
use Rattle.point_views.specs.declared.numbers.NumberWidth.TheVariants.{Short}
use Rattle.file_info.proofs.DescriptionLemmas.{next_unit}
use Rattle.file_info.proofs.description.units_in.Goals as goal

pub loop-place-preserved : goal.loop-place-preserved
loop-place-preserved c =
    let left = c.args.count - (c.loop-place.place + 1) in
    let bytes = c.args.bytes.now in
    let place = c.loop-place.place in
    let units = c.loop-place.units.items in
    let rest = counts_in Short left (drop (2 * (place + 1)) bytes) in
    let count : c.args.count - place ≡ suc left = omega arith in
    let split = ap (λ n. counts_in Short n (drop (2 * place) bytes)) count ∙ next_unit left place bytes in
    ap (λ all. all ++ rest) c.in_ok-push.ensures.items
    ∙ (append_assoc units (c.u16_at.result ∷ []) rest
    ∙ (ap (λ unit. units ++ unit ∷ rest) c.u16_at.ensures ∙ (ap (λ all. units ++ all) (sym split) ∙ c.loop-place.invariant)))
