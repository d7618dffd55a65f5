use Rattle.std.proofs.Common.{length}
use Rattle.term_bank.proofs.TableLaws.{AreBelow-at}
use Rattle.branch_values.proofs.NewsLaws.{news_none, news_more, news_all}
use Rattle.branch_values.proofs.news.with_classes.Goals as goal

pub class-class-requires : goal.class-class-requires
class-class-requires c = AreBelow-at (length c.args.bank.now) c.args.list.now c.loop-i.i c.requires c.loop-i-test.true

pub loop-i-init : goal.loop-i-init
loop-i-init c = news_none c.args.bank.now c.args.list.now c.new-news.result.items c.new-news.ensures.items

pub loop-i-preserved : goal.loop-i-preserved
loop-i-preserved c = news_more c.args.bank.now c.args.list.now c.loop-i.news.items c.push.new.self.items c.loop-i.i c.class-class.result c.loop-i.invariant c.loop-i-test.true (AreBelow-at (length c.args.bank.now) c.args.list.now c.loop-i.i c.requires c.loop-i-test.true) c.class-class.ensures.small c.in_ok-push.ensures.items

pub returns : goal.returns
returns c = news_all c.args.bank.now c.args.list.now c.loop-i.news.items c.loop-i.i c.loop-i-test.false c.loop-i.invariant
