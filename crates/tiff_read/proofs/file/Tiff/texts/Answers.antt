use Rattle.std.proofs.Common.{arith, ◌∙◌, ◌<◌}
use Rattle.std.proofs.lemmas.Grind.{common_steps}
use Rattle.tiff_read.specs.Texts.{cost_of, cost_of_texts, text_of}
use Rattle.tiff_read.proofs.file.Tiff.texts.Goals as goal

pub returns-in_err-date_time-clause-spent : goal.returns-in_err-date_time-clause-spent
returns-in_err-date_time-clause-spent c =
    let (((b1, _), _), p1) = c.in_ok-document_name.ensures.paid in
    let (((s2, _), _), r2) = c.in_ok-image_description.ensures.paid in
    let p2 = rw b1 at r2 in
    let b2 = s2 ∙ b1 in
    let (((s3, _), _), r3) = c.in_ok-page_name.ensures.paid in
    let p3 = rw b2 at r3 in
    let b3 = s3 ∙ b2 in
    let (((s4, _), _), r4) = c.in_ok-software.ensures.paid in
    let p4 = rw b3 at r4 in
    let b4 = s4 ∙ b3 in
    let few : c.text-4.new.self.left < cost_of (text_of c.text-4.new.self.bytes c.args.directory.now 306) =
    grind (arith, common_steps, c.in_err-date_time.ensures.spent, c.in_err-date_time.ensures.only_spent) in
    let last = rw b4 at few in
    let less : c.args.self.now.left < cost_of_texts c.args.self.now.bytes c.args.directory.now =
    omega (arith, last, p1, p2, p3, p4) in
    grind (arith, common_steps, less)

pub returns-in_err-artist-clause-spent : goal.returns-in_err-artist-clause-spent
returns-in_err-artist-clause-spent c =
    let (((b1, _), _), p1) = c.in_ok-document_name.ensures.paid in
    let (((s2, _), _), r2) = c.in_ok-image_description.ensures.paid in
    let p2 = rw b1 at r2 in
    let b2 = s2 ∙ b1 in
    let (((s3, _), _), r3) = c.in_ok-page_name.ensures.paid in
    let p3 = rw b2 at r3 in
    let b3 = s3 ∙ b2 in
    let (((s4, _), _), r4) = c.in_ok-software.ensures.paid in
    let p4 = rw b3 at r4 in
    let b4 = s4 ∙ b3 in
    let (((s5, _), _), r5) = c.in_ok-date_time.ensures.paid in
    let p5 = rw b4 at r5 in
    let b5 = s5 ∙ b4 in
    let few : c.text-5.new.self.left < cost_of (text_of c.text-5.new.self.bytes c.args.directory.now 315) =
    grind (arith, common_steps, c.in_err-artist.ensures.spent, c.in_err-artist.ensures.only_spent) in
    let last = rw b5 at few in
    let less : c.args.self.now.left < cost_of_texts c.args.self.now.bytes c.args.directory.now =
    omega (arith, last, p1, p2, p3, p4, p5) in
    grind (arith, common_steps, less)

pub returns-in_err-copyright-clause-spent : goal.returns-in_err-copyright-clause-spent
returns-in_err-copyright-clause-spent c =
    let (((b1, _), _), p1) = c.in_ok-document_name.ensures.paid in
    let (((s2, _), _), r2) = c.in_ok-image_description.ensures.paid in
    let p2 = rw b1 at r2 in
    let b2 = s2 ∙ b1 in
    let (((s3, _), _), r3) = c.in_ok-page_name.ensures.paid in
    let p3 = rw b2 at r3 in
    let b3 = s3 ∙ b2 in
    let (((s4, _), _), r4) = c.in_ok-software.ensures.paid in
    let p4 = rw b3 at r4 in
    let b4 = s4 ∙ b3 in
    let (((s5, _), _), r5) = c.in_ok-date_time.ensures.paid in
    let p5 = rw b4 at r5 in
    let b5 = s5 ∙ b4 in
    let (((s6, _), _), r6) = c.in_ok-artist.ensures.paid in
    let p6 = rw b5 at r6 in
    let b6 = s6 ∙ b5 in
    let few : c.text-6.new.self.left < cost_of (text_of c.text-6.new.self.bytes c.args.directory.now 33432) =
    grind (arith, common_steps, c.in_err-copyright.ensures.spent, c.in_err-copyright.ensures.only_spent) in
    let last = rw b6 at few in
    let less : c.args.self.now.left < cost_of_texts c.args.self.now.bytes c.args.directory.now =
    omega (arith, last, p1, p2, p3, p4, p5, p6) in
    grind (arith, common_steps, less)
