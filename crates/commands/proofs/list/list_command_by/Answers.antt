-- However the command ends, what the law of listings says about any file holds for this one.
use Rattle.commands.proofs.list.list_command_by.Goals as goal

pub returns-in-Ok-Ended-clause-each_stop : goal.returns-in-Ok-Ended-clause-each_stop
returns-in-Ok-Ended-clause-each_stop g c = c.listing_law.ensures.stops c.args.file.now

pub returns-in-Ok-Ended-clause-each_refusal : goal.returns-in-Ok-Ended-clause-each_refusal
returns-in-Ok-Ended-clause-each_refusal g c = c.listing_law.ensures.refusals c.args.file.now

pub returns-in-Ok-Broken-clause-each_stop : goal.returns-in-Ok-Broken-clause-each_stop
returns-in-Ok-Broken-clause-each_stop g c = c.listing_law.ensures.stops c.args.file.now

pub returns-in-Ok-Broken-clause-each_refusal : goal.returns-in-Ok-Broken-clause-each_refusal
returns-in-Ok-Broken-clause-each_refusal g c = c.listing_law.ensures.refusals c.args.file.now

pub returns-in-Err-send_listing-clause-each_stop : goal.returns-in-Err-send_listing-clause-each_stop
returns-in-Err-send_listing-clause-each_stop g c = c.listing_law.ensures.stops c.args.file.now

pub returns-in-Err-send_listing-clause-each_refusal : goal.returns-in-Err-send_listing-clause-each_refusal
returns-in-Err-send_listing-clause-each_refusal g c = c.listing_law.ensures.refusals c.args.file.now

pub returns-in-Err-clause-each_stop : goal.returns-in-Err-clause-each_stop
returns-in-Err-clause-each_stop g c = c.listing_law.ensures.stops c.args.file.now

pub returns-in-Err-clause-each_refusal : goal.returns-in-Err-clause-each_refusal
returns-in-Err-clause-each_refusal g c = c.listing_law.ensures.refusals c.args.file.now
