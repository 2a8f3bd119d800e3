use Rattle.std.proofs.Common.{rules}
use Rattle.physical_lines.specs.Physical.{IsHeader}
use Rattle.play_text.specs.PlayLines.{play_header}
use Rattle.play_text.proofs.Leading.{room_behind_header}
use Rattle.play_text.proofs.play_text.header_line.Goals as goal

pub returns-then-is_header-clause-room : goal.returns-then-is_header-clause-room
returns-then-is_header-clause-room c =
    let h : IsHeader play_header c.in-Some.first.line.now = c.is_header.ensures.value.0 (search rules) in
    room_behind_header c.args.text.now c.in-Some.first.place c.in-Some.first.line.now c.in-Some.first.rest.now c.in-Some.ensures.leads h
