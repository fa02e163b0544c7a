use Rattle.facet_text.proofs.SpelledIsRead.{spelled_read}
use Rattle.facet_text.proofs.law.spelled_is_read.Goals as goal

pub returns : goal.returns
returns c bytes from facets rest spells good = spelled_read bytes from facets rest spells good
