-- The place fits.
use Rattle.std.proofs.Common.{rules, ◌-ℤ◌, FitsSigned, arith, sym}
use Rattle.std.specs.Int.{w32}
use Rattle.std.proofs.lemmas.Int.{fits_signed_from_abs, ints, to_z-of_z}
use Rattle.span_fill.proofs.CoverLemmas.{reaches}
use Rattle.span_fill.proofs.mask_runs.own_row.Goals as goal

pub returns-in-None-clause-row : goal.returns-in-None-clause-row
returns-in-None-clause-row c =
    let row : FitsSigned w32 c.args.row = search rules in
    let first : FitsSigned w32 c.first_row.result = search rules in
    let is = c.first_row.ensures.row in
    let low = c.requires.first in
    let last = c.requires.last in
    let region = c.requires.frame.region in
    let reach = reaches c.args.frame.nib.y in
    let side = c.requires.frame.nib.y in
    let place : FitsSigned w32 (c.args.row -ℤ c.first_row.result) = fits_signed_from_abs w32 (c.args.row -ℤ c.first_row.result) (omega (arith, ints, is, low, last, region, reach, side)) in
    let there = simp to_z-of_z at c.mask_row.ensures.row in
    rw is at there
