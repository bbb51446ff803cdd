mod Acted
mod Posting
