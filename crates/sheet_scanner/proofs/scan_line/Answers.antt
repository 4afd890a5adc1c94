-- `sheet_scanner::scan_line` meets its contract, by the case of what was found. Assumes nothing.
use Prim.Native.Nat.{◌<◌}
use native.Mathlib.Omega.{arith}
use lib.ListN.{length}
use Rattle.sheet_begun.proofs.Lengthening.{begun_sized, begun-of-some}
use Rattle.sheet_scanner.proofs.Scanning.{end-within, scans-part, scans-told, scans-command}
use Rattle.sheet_scanner.proofs.scan_line.Goals as goal

pub slice_bounds-part-end : goal.slice_bounds-part-end
slice_bounds-part-end c =
    omega (arith, c.line_end-end.ensures, end-within c.args.input.now c.args.from c.requires.0)

pub returns-then-end-input-clause-scans : goal.returns-then-end-input-clause-scans
returns-then-end-input-clause-scans c =
    let end = c.line_end-end in
    scans-part c.requires.0 end.ensures c.requires.1 c.lengthen-longer.ensures

pub returns-in-Told-clause-scans : goal.returns-in-Told-clause-scans
returns-in-Told-clause-scans c =
    let within = end-within c.args.input.now c.args.from c.requires.0 in
    let inside : c.line_end-end.result < length c.args.input.now =
    omega (arith, c.if-end-input.false, c.line_end-end.ensures) in
    let some = begun-of-some c.args.begun (begun_sized c.args.begun _ c.well_formed.0) in
    let j = c.judge in
    scans-told c.requires.0 c.line_end-end.ensures c.requires.1 _ j.result
    inside some c.read_with-parsed.ensures j.ensures c.in-Told.is
    c.next_line.ensures

pub returns-in-Command-clause-scans : goal.returns-in-Command-clause-scans
returns-in-Command-clause-scans c =
    let within = end-within c.args.input.now c.args.from c.requires.0 in
    let inside : c.line_end-end.result < length c.args.input.now =
    omega (arith, c.if-end-input.false, c.line_end-end.ensures) in
    let some = begun-of-some c.args.begun (begun_sized c.args.begun _ c.well_formed.0) in
    let j = c.judge in
    scans-command c.requires.0 c.line_end-end.ensures c.requires.1 _ j.result
    inside some c.lengthen.ensures c.read_with-parsed.ensures j.ensures
    c.in-Command.is
