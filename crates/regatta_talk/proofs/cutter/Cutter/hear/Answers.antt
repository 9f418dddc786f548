use Rattle.std.proofs.Common.{rules, ◌≤◌, ◌<◌, length}
use Rattle.regatta_talk.specs.declared.cutter.TheConstants.{MAX_HEARD}
use Rattle.regatta_talk.proofs.HeardLines.{full_after, heard_next}
use Rattle.regatta_talk.proofs.cutter.Cutter.hear.Goals as goal

pub returns-then-is_full : goal.returns-then-is_full
returns-then-is_full c =
    let full : MAX_HEARD ≤ length c.loop-byte.self-inside.heard.items = search rules in
    full_after _ _ _ c.loop-byte.byte-index full c.loop-byte.invariant

pub loop-byte-preserved : goal.loop-byte-preserved
loop-byte-preserved c =
    let short : length c.loop-byte.self-inside.heard.items < MAX_HEARD = search rules in
    heard_next _ _ _ c.args.bytes.now c.loop-byte.byte-index _ c.loop-byte-test.true short
    c.loop-byte.invariant c.push.ensures.items
