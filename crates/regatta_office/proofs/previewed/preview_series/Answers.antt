use Rattle.std.proofs.Common.{◌≡◌, true, subst}
use Rattle.std.specs.Io.KnownBytes.{Appends}
use Rattle.regatta_scores.specs.Journal.{Journal}
use Rattle.regatta_board.specs.Refusals.{limits, is_lawful}
use Rattle.regatta_preview.specs.Previews.{previewed}
use Rattle.regatta_preview.specs.Runs.{OfLines}
use Rattle.regatta_office.specs.Asked.{IsPreviewOf, PreviewAsked}
use Rattle.regatta_office.proofs.Previewing.{at_most_of}
use Rattle.regatta_office.proofs.previewed.preview_series.Goals as goal

-- the preview was written
pub returns-clause-done : goal.returns-clause-done
returns-clause-done g c =
    let given = g.R.Device.remaining c.args.input.now in
    let old = g.W.Device.contents c.args.output.now in
    let new = g.W.Device.contents c.preview.new.output in
    let rules = c.in_ok-begin.begin.rules in
    let role = c.options.inside.role in
    subst (λ (asked : PreviewAsked). IsPreviewOf asked given old new) c.options.view_is (record {
      rules = rules;
      start = c.in_ok-begin.begin.start;
      begins = c.in_ok-begin.ensures;
      lawful = subst (λ (start : Journal). is_lawful limits rules start ≡ true)
          c.as_slice-start.ensures c.in_ok-preview.ensures.start;
      wrote = subst (λ (start : Journal). OfLines given
          (λ text. Appends old new (previewed rules start role text)))
          c.as_slice-start.ensures c.in_ok-preview.ensures.wrote;
    })

pub returns-clause-at_most : goal.returns-clause-at_most
returns-clause-at_most g c =
    at_most_of _ _ (g.R.Device.remaining c.args.input.now) (g.W.Device.contents c.args.output.now)
    (g.W.Device.contents c.preview.new.output) c.in_ok-begin.begin.rules _ _ c.options.view_is
    c.as_slice-start.ensures c.in_ok-begin.ensures c.preview.ensures.at_most

-- or it broke off
pub returns-in_err-preview-clause-at_most : goal.returns-in_err-preview-clause-at_most
returns-in_err-preview-clause-at_most g c =
    at_most_of _ _ (g.R.Device.remaining c.args.input.now) (g.W.Device.contents c.args.output.now)
    (g.W.Device.contents c.preview.new.output) c.in_ok-begin.begin.rules _ _ c.options.view_is
    c.as_slice-start.ensures c.in_ok-begin.ensures c.preview.ensures.at_most
