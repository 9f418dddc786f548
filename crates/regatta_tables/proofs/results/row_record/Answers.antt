use Rattle.std.proofs.Common.{◌∙◌, ◌++◌, ◌∷◌, [], map}
use Rattle.regatta_tables.specs.TableTexts.{cell_text}
use Rattle.regatta_tables.proofs.results.row_record.Goals as goal

pub returns : goal.returns
returns c =
    let rank = c.rank_word-rank.ensures.text in
    let sail = c.as_bytes-sail.ensures.text in
    let net = c.points_word-net.ensures.text in
    let cells = c.as_slice.ensures in
    let none = c.new-record.ensures.items in
    let first = c.in_ok-push_fields.ensures in
    c.in_ok-push_cell_fields.ensures ∙ (λ i. first i ++ map cell_text (cells i))
    ∙ (λ i. (map (λ field. field.items) (none i) ++ rank i ∷ sail i ∷ net i ∷ [])
    ++ map cell_text c.args.row.now.cells)
