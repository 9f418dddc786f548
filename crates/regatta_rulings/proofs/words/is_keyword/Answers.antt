use Rattle.regatta_terms.proofs.Keywords.{says_from_ignored_case}
use Rattle.regatta_rulings.proofs.words.is_keyword.Goals as goal

pub returns : goal.returns
returns c = says_from_ignored_case c.args.word.now c.args.keyword.now _ c.requires
    c.eq_ignore_ascii_case.ensures.test
