-- `pages::page_line::put_line` meets its contract: three numbers and the end, part by part. Assumes nothing.
use Rattle.pages.proofs.LineTexts.{first_asked, second_asked, third_asked, end_room, line_wrote}
use Rattle.pages.proofs.page_line.put_line.Goals as goal

pub put_padded-next-requires : goal.put_padded-next-requires
put_padded-next-requires c = first_asked c.requires

pub put_padded-next-requires-2 : goal.put_padded-next-requires-2
put_padded-next-requires-2 c = second_asked c.requires c.put_padded-next.ensures

pub put_padded-next-requires-3 : goal.put_padded-next-requires-3
put_padded-next-requires-3 c =
    third_asked c.requires c.put_padded-next.ensures c.put_padded-next-2.ensures

pub put_end-requires : goal.put_end-requires
put_end-requires c =
    end_room c.requires c.put_padded-next.ensures c.put_padded-next-2.ensures c.put_padded-next-3.ensures _

pub returns : goal.returns
returns c =
    line_wrote c.requires c.put_padded-next.ensures c.put_padded-next-2.ensures c.put_padded-next-3.ensures _ c.put_end.ensures
