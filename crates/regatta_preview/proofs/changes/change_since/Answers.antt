use Rattle.std.proofs.Common.{◌≡◌, List, ap, ◌∙◌}
use Rattle.std.specs.Option.{option_copied, option_map}
use Rattle.regatta_scores.specs.declared.table.Row.{Row}
use Rattle.regatta_preview.specs.Changes.{cells_of, change_since, row_of, score_changes}
use Rattle.regatta_preview.specs.Moves.{place_of}
use Rattle.regatta_preview.proofs.changes.change_since.Goals as goal

pub returns : goal.returns
unfolding change_since
returns c =
    let first = c.args.first.now in
    let last = c.args.last.now in
    let row = c.args.row.now in
    let was : option_copied c.row_of-was.result ≡ row_of first.rows row.sail =
    c.row_of-was.ensures ∙ ap (λ (rows : List Row). row_of rows row.sail) c.as_slice.ensures in
    let scores = c.new.ensures ∙ c.in_ok-scores.ensures
    ∙ (λ t. score_changes first.races ((c.cells_of.ensures ∙ ap cells_of was) t) last.races
    (c.as_slice-2.ensures t)) in
    λ i. record {
      step = record {
        sail = row.sail;
        before = (c.place_if_any.ensures ∙ ap (option_map place_of) was) i;
        after = c.place_of.ensures i;
      };
      scores = scores i;
    }
