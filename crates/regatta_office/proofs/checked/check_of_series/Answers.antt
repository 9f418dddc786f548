use Rattle.std.proofs.Common.{◌≡◌, rules, subst, sym}
use Rattle.std.specs.Prelude.{is_some}
use Rattle.std.specs.Option.{option_copied}
use Rattle.regatta_office.specs.Asked.{Series}
use Rattle.regatta_office.specs.CheckedStarts.{IsCheckOf}
use Rattle.regatta_office.proofs.Checking.{of_asked}
use Rattle.regatta_office.proofs.checked.check_of_series.Goals as goal

pub returns : goal.returns
returns g c =
    let keep = option_copied c.args.keep in
    let check = c.in_ok-check.check in
    let kept : c.is_some-is_kept.result ≡ is_some keep = search rules in
    let same : c.deref.result.now ≡ c.in_ok-text.text.items = search rules in
    subst (λ (s : Series). IsCheckOf (record { series = s; keep = keep }) check) c.series.view_is
    (record {
      rules = c.in_ok-rules.rules;
      read = sym c.in_ok-rules.ensures;
      text = c.in_ok-text.text.items;
      from_file = c.in_ok-text.ensures;
      checks = of_asked _ c.in_ok-rules.rules check _ (is_some keep) _ c.in_ok-text.text.items kept
          same c.in_ok-check.ensures;
    })
