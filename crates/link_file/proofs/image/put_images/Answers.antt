use Rattle.std.proofs.Common.{◌+◌, ◌++◌, List, drop, refl, sym, ap, ◌∙◌, arith}
use Rattle.std.proofs.lemmas.Result.{err_from_is_err_and}
use Rattle.omf_format.specs.Record.{Record}
use Rattle.std.proofs.lemmas.List.{length-append}
use Rattle.load_meaning.specs.WrittenFile.{file_text}
use Rattle.link_file.specs.Images.{spelled_records, images_in, left_from}
use Rattle.link_file.proofs.ImageLaws.{one_image, long_image, more_ready, none_left, none_after, drop_next, ready_size}
use Rattle.link_file.proofs.image.put_images.Goals as goal

pub unreachable-requires-in_default-content_at : goal.unreachable-requires-in_default-content_at
unreachable-requires-in_default-content_at c = ready_size c.args.headers.now c.args.contents.now c.loads.place c.loads.invariant.left c.loads-test.true c.in_default-content_at.ensures

pub put_image-requires : goal.put_image-requires
put_image-requires c =
    let k = c.loads.place in
    let headers = c.args.headers.now in
    let contents = c.args.contents.now in
    (more_ready (drop k headers) (drop (k + 1) headers) (drop k contents) (drop (k + 1) contents) c.in-Some.header.now c.in-Some-content_at.content.now
    (drop_next headers k c.in-Some.header.now c.in-Some.ensures) (drop_next contents k c.in-Some-content_at.content.now c.in-Some-content_at.ensures) c.loads.invariant.left).0

pub loads-init : goal.loads-init
loads-init c = record {
  own = λ records same. same;
  whole = λ records same. refl;
  short = λ le. le;
  left = c.requires;
}

pub returns-in_err-put_image-clause-too_long : goal.returns-in_err-put_image-clause-too_long
returns-in_err-put_image-clause-too_long c =
    let p = err_from_is_err_and c.from_residual.result c.from_residual.ensures.1 in
    rw (p.1, p.2) (λ e records same.
    let k = c.loads.place in
    let headers = c.args.headers.now in
    let contents = c.args.contents.now in
    let left = left_from k records in
    let text = file_text (images_in records headers contents) in
    let long = long_image left c.loads.out.items (c.args.out.now.items ++ text) 0x1000000 (drop k headers) (drop (k + 1) headers) (drop k contents) (drop (k + 1) contents)
    c.in-Some.header.now c.in-Some-content_at.content.now (drop_next headers k c.in-Some.header.now c.in-Some.ensures) (drop_next contents k c.in-Some-content_at.content.now c.in-Some-content_at.ensures)
    (c.loads.invariant.whole records same) (c.in_err-put_image.ensures.too_long e left (c.loads.invariant.own records same)) in
    omega (arith, long, length-append c.args.out.now.items text))

pub loads-preserved : goal.loads-preserved
loads-preserved c =
    let k = c.loads.place in
    let headers = c.args.headers.now in
    let contents = c.args.contents.now in
    let hs = drop_next headers k c.in-Some.header.now c.in-Some.ensures in
    let cs = drop_next contents k c.in-Some-content_at.content.now c.in-Some-content_at.ensures in
    record {
      own = λ records same. ap spelled_records (sym (none_after k records));
      whole = λ records same.
          let left = left_from k records in
          ap (λ (l : List Record). c.put_image.new.out.items ++ file_text (images_in l (drop (k + 1) headers) (drop (k + 1) contents))) (none_after k records)
          ∙ one_image left c.loads.out.items c.put_image.new.out.items (c.args.out.now.items ++ file_text (images_in records headers contents)) (drop k headers) (drop (k + 1) headers)
          (drop k contents) (drop (k + 1) contents) c.in-Some.header.now c.in-Some-content_at.content.now hs cs (c.in_ok-put_image.ensures.ok left (c.loads.invariant.own records same)) (c.loads.invariant.whole records same);
      short = λ _. c.in_ok-put_image.ensures.short;
      left = (more_ready (drop k headers) (drop (k + 1) headers) (drop k contents) (drop (k + 1) contents) c.in-Some.header.now c.in-Some-content_at.content.now hs cs c.loads.invariant.left).1;
    }

pub returns-clause-ok : goal.returns-clause-ok
returns-clause-ok c = λ records same.
    none_left (left_from c.loads.place records) c.loads.out.items (c.args.out.now.items ++ file_text (images_in records c.args.headers.now c.args.contents.now)) c.args.headers.now (drop c.loads.place c.args.contents.now)
    c.loads.place c.loads-test.false (c.loads.invariant.whole records same)
