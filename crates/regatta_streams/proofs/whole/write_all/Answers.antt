use Rattle.std.proofs.Common.{rules, ap, sym, ◌∙◌, ◌++◌, take}
use Rattle.std.proofs.lemmas.List.{append_assoc}
use Rattle.regatta_streams.proofs.KnownBytes.{appends-keeps, appends-then}
use Rattle.regatta_streams.proofs.KnownBytes.{keeps-then}
use Rattle.regatta_streams.proofs.KnownBytes.{front-written, rest_split}
use Rattle.regatta_streams.proofs.whole.write_all.Goals as goal

pub returns-in_default : goal.returns-in_default
returns-in_default g c =
    let (done, split, wrote, same, unread, keeps) = c.loop-rest.invariant in record {
      ok = search rules;
      cut = front-written _ _ c.args.bytes.now done c.loop-rest.rest.now split (search rules)
          (appends-keeps _ _ _ done wrote c.in_default.ensures.bytes);
      well = search rules;
      failed = search rules;
      no_read = c.in_default.ensures.no_read ∙ unread;
      keeps = keeps-then _ _ _ keeps c.in_default.ensures.keeps;
    }

pub loop-rest-preserved : goal.loop-rest-preserved
loop-rest-preserved g c =
    let (done, split, wrote, same, unread, keeps) = c.loop-rest.invariant in
    let rest = c.loop-rest.rest.now in
    let n = c.in-Ok.taken in (
      done ++ take n rest,
      split ∙ ap (λ t. done ++ t) (rest_split n rest) ∙ sym (append_assoc done (take n rest) _),
      appends-then _ _ _ done (take n rest) wrote c.in-Ok.ensures.bytes,
      c.in-Ok.ensures.well ∙ same,
      c.in-Ok.ensures.no_read ∙ unread,
      keeps-then _ _ _ keeps c.in-Ok.ensures.keeps,
    )
