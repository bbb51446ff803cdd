mod BackLaws
mod CoderLaws
mod EncoderLaws
mod PictureLaws
mod PieceLaws
