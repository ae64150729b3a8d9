-- What begins with an attribute is read as it, so two attributes at one front are one.
use Rattle.jv_attr.proofs.AttrLaws.{one_reading, attrs_agree, no_front}
use Rattle.jv_attr.proofs.reader.one_attr_text.Goals as goal

pub returns-clause-reading : goal.returns-clause-reading
returns-clause-reading c = one_reading

pub returns-clause-fronts : goal.returns-clause-fronts
returns-clause-fronts c = attrs_agree

pub returns-clause-whole : goal.returns-clause-whole
returns-clause-whole c = no_front
