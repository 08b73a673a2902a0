-- A plain value has no tag above that of big maps.
use Rattle.std.proofs.Common.{◌≤◌, Result, Ok, Err, OnOk}
use Rattle.std.specs.Prelude.{IsTrue}
use Rattle.value_core.specs.declared.val.Val.{Val}
use Rattle.value_core.specs.Sound.{is_plain}
use Rattle.value_core.specs.Lawful.{is_lawful}
use Rattle.value_core.specs.Depth.{depth_of}
use Rattle.value_codec.specs.Spelling.{IsSpelt}
use Rattle.value_codec.proofs.Levels.{plain_tags}
use Rattle.value_codec.proofs.writer.put_val.Goals as goal

spelt : {E : Type 0} (r : Result (Unit {0}) E) (v : Val) → OnOk r (IsTrue (is_lawful v)) → IsTrue (is_plain v) → depth_of v ≤ 128 → OnOk r (IsSpelt 18 128 v)
spelt (Ok u) v leaves plain deep = record { leaves = leaves; plain = plain; tags = plain_tags v plain; deep = deep }
spelt (Err e) v leaves plain deep = tt

pub returns-clause-spelt : goal.returns-clause-spelt
returns-clause-spelt c = spelt c.put.result c.args.v.now c.put.ensures.lawful c.requires.plain c.requires.deep
