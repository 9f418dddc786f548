use Rattle.std.proofs.Common.{rules, arith, ◌≡◌, ◌<◌, ◌+◌, ◌++◌, map, take, length, ap}
use Rattle.std.proofs.Common.{vec_len, vec_capacity, length-append, length-take}
use Rattle.std.proofs.lemmas.Grind.{common_steps}
use Rattle.regatta_terms.specs.Entries.{points_text}
use Rattle.regatta_terms.specs.Words.{spaced}
use Rattle.regatta_tables.specs.Lines.{line}
use Rattle.regatta_tables.specs.TableTexts.{cell_text, rank_text, row_words}
use Rattle.regatta_tables.proofs.LineFacts.{headed, length_headed}
use Rattle.regatta_tables.proofs.rows.push_row.Goals as goal

pub returns-clause-pushed : goal.returns-clause-pushed
returns-clause-pushed c =
    let row = c.args.row.now in
    let there = headed c.args.out.now.items (rank_text row.rank row.tied) row.sail
    (points_text row.net) _ c.put_cells.new.out.items _ _ _ c.put_head-at.ensures.text
    c.in_ok-at.ensures.ok c.put-at.ensures.text in
    let text : c.put_cells.new.out.items ++ take c.put-at.result c.put-at.new.page
    ≡ c.args.out.now.items ++ line (row_words row) = rw c.as_slice.ensures at there in
    let same : vec_len c.put_cells.new.out + length (take c.put-at.result c.put-at.new.page)
    ≡ vec_len c.args.out.now + length (line (row_words row)) = omega (
      arith,
      ap length text,
      length-append c.put_cells.new.out.items (take c.put-at.result c.put-at.new.page),
      length-append c.args.out.now.items (line (row_words row)),
      c.args.out.now.ok.0,
      c.put_cells.new.out.ok.0,
    ) in
    record { ok = search rules; err = grind (arith, common_steps); room = search rules; full = search rules }

pub returns-in_err-at-clause-pushed : goal.returns-in_err-at-clause-pushed
returns-in_err-at-clause-pushed c =
    let row = c.args.row.now in
    let full : vec_capacity c.args.out.now < vec_len c.args.out.now
    + length (line (row_words row)) = omega (
      arith,
      c.in_err-at.ensures.full,
      ap (λ cells. length (spaced (map cell_text cells))) c.as_slice.ensures,
      length_headed (rank_text row.rank row.tied) row.sail (points_text row.net)
          (map cell_text row.cells),
      ap length c.put_head-at.ensures.text,
      length-take c.put_head-at.result c.put_head-at.new.page,
    ) in
    record { ok = search rules; err = search rules; room = search rules; full = search rules }
